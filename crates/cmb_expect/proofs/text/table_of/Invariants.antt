use Rattle.std.proofs.Common.{◌≡◌, ◌++◌, take}
use Rattle.std.specs.List.{flat_map}
use Rattle.cmb_expect.specs.Texts.{header, line_of}
use Rattle.cmb_expect.proofs.text.table_of.Given as goal

abbrev pub invariant-loop-i : goal.invariant-loop-i
invariant-loop-i l = l.text.items ≡ header ++ flat_map (line_of l.design) (take l.i l.rows)
