-- The table of the rows that differ: comma-separated values (RFC 4180).
use Rattle.std.specs.Prelude.{ℕ, List, [], ◌∷◌, ◌++◌, codes, decimal, if◌then◌else◌}
use Rattle.std.specs.List.{flat_map}
use Rattle.cmb_wave.specs.declared.level.Level.{Level}
use Rattle.cmb_netlist.specs.Netlist.{name_of}
use Rattle.cmb_design_model.specs.Design.{Design}
use Rattle.cmb_run_text.specs.Vcd.{level_byte}
use Rattle.cmb_activity.specs.Texts.{field}
use Rattle.cmb_expect.specs.Expectations.{differs, level_found}
use Rattle.cmb_design_model.specs.declared.expected.Expected.{Expected}

abbrev pub level_field : Level → List ℕ
level_field level = codes "," ++ level_byte level ∷ []

unfoldable pub line : ℕ → List ℕ → Level → Level → List ℕ
line tick name expected found = decimal tick ++ (codes "," ++ (field name ++ (level_field expected ++ (level_field found ++ codes "\n"))))

-- a row that differs has a line: its tick, its net, the level that is expected and the one that the net has
abbrev pub line_of : Design → Expected → List ℕ
line_of design row =
    if differs design row then line row.tick (name_of design.netlist row.net) row.level (level_found design row) else []

abbrev pub header : List ℕ
header = codes "tick,net,expected,value\n"

-- the table, in the order of the rows
abbrev pub difference_table : Design → List Expected → List ℕ
difference_table design rows = header ++ flat_map (line_of design) rows
