-- The inputs that a line names, by their numbers.
use Rattle.std.specs.Prelude.{◌≡◌, ℕ, ◌⊎◌, IsSome}
use Rattle.cmb_cli_line.specs.declared.line.Line.{Line}

-- standard input, which has the netlist, or a table or list whose file the line names
abbrev pub IsNamed : Line → ℕ → Type 0
IsNamed line input =
    (input ≡ 1) ⊎ ((input ≡ 2) × IsSome line.delays) ⊎ ((input ≡ 3) × IsSome line.stimuli) ⊎ ((input ≡ 4) × IsSome line.clocks) ⊎ ((input ≡ 5) × IsSome line.only)
    ⊎ ((input ≡ 6) × IsSome line.initial) ⊎ ((input ≡ 7) × IsSome line.expected)
