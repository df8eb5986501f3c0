-- The text between two ticks, and the last line where it comes there.
use Rattle.std.specs.Prelude.{ℕ, ◌-◌, nat_lt, List, [], if◌then◌else◌}
use Rattle.std.specs.List.{flat_map, range_with_len}
use Rattle.cmb_wave.specs.declared.level.Level.{Level}
use Rattle.cmb_run_text.specs.Vcd.{tick_line, tick_text}

-- the texts of the ticks of [from, to)
unfoldable pub ticks_between : ℕ → (ℕ → ℕ → Level) → ℕ → ℕ → List ℕ
ticks_between nets level from to = flat_map (tick_text nets level) (range_with_len from (to - from))

-- the last line, where it comes between the part up to one tick and that up to another
abbrev pub end_line : ℕ → ℕ → ℕ → List ℕ
end_line horizon from upto = if nat_lt from horizon then (if nat_lt upto horizon then [] else tick_line horizon) else []
