use Rattle.std.proofs.Common.{◌≡◌, take}
use Rattle.cmb_design_tables.specs.Fields.{trim_back}
use Rattle.cmb_design_tables.proofs.fields.drop_blanks.Given as goal

abbrev pub invariant-loop-i : goal.invariant-loop-i
invariant-loop-i l = trim_back (take l.i l.field) ≡ trim_back l.field
