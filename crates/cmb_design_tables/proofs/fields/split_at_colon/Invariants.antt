use Rattle.std.proofs.Common.{◌≡◌, None, drop}
use Rattle.cmb_design_tables.specs.Fields.{split_pin}
use Rattle.cmb_design_tables.proofs.fields.split_at_colon.Given as goal

abbrev pub invariant-loop-i : goal.invariant-loop-i
invariant-loop-i l = split_pin (drop l.i l.field) ≡ None
