-- How inputs are called, and what is said of what was done.
use Rattle.std.specs.Prelude.{ℕ, ◌==◌, List, Bool, codes, if◌then◌else◌, option_map, string_bytes, unwrap_or}
use Rattle.cmb_cli_line.specs.declared.line.Line.{Line}
use Rattle.cmb_faults.specs.declared.answer.Done.{Done}
use Rattle.cmb_faults.specs.declared.answer.Done.TheVariants.{Ran, Measured, Compared, Checked}

-- an input by its number: a table or a list by its path
abbrev pub name_of : Line → ℕ → List ℕ
name_of line input =
    if input == 2 then unwrap_or (option_map string_bytes line.delays) (codes "a table")
    else if input == 3 then unwrap_or (option_map string_bytes line.stimuli) (codes "a table")
    else if input == 4 then unwrap_or (option_map string_bytes line.clocks) (codes "a table")
    else if input == 5 then unwrap_or (option_map string_bytes line.only) (codes "the list")
    else if input == 6 then unwrap_or (option_map string_bytes line.initial) (codes "a table")
    else if input == 7 then unwrap_or (option_map string_bytes line.expected) (codes "a table")
    else codes "the netlist"

abbrev pub nets_of : Done → ℕ
nets_of (Ran report) = report.nets
nets_of (Measured report) = report.nets
nets_of (Compared told) = told.report.nets
nets_of (Checked counts) = counts.nets

-- of a netlist without nets, which was read from a terminal or wasn't
abbrev pub no_nets : Bool → List ℕ
no_nets is_typed =
    if is_typed then codes "cmbsim: the netlist, read from the terminal, has no nets: `< netlist.bench` has it read from a file\n"
    else codes "cmbsim: the netlist has no nets, so its waveforms have none, and some viewers refuse to open them\n"
