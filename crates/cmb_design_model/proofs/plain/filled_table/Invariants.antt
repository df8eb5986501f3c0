use Rattle.std.proofs.Common.{◌*◌}
use Rattle.cmb_design_model.specs.Exact.{nets_of}
use Rattle.cmb_design_model.specs.Inner.PlainTable.{HoldsCells}
use Rattle.cmb_design_model.proofs.plain.filled_table.Given as goal

abbrev pub invariant-loop-tick : goal.invariant-loop-tick
invariant-loop-tick l = HoldsCells l.design l.table (l.tick * nets_of l.design)
