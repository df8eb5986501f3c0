use Rattle.std.proofs.Common.{◌≡◌, drop}
use Rattle.cmb_design_tables.specs.Fields.{trim_front}
use Rattle.cmb_design_tables.proofs.fields.skip_blanks.Given as goal

abbrev pub invariant-loop-i : goal.invariant-loop-i
invariant-loop-i l = trim_front (drop l.i l.field) ≡ trim_front l.field
