use Rattle.std.proofs.Common.{◌+◌, ◌*◌}
use Rattle.cmb_design_model.specs.Exact.{nets_of}
use Rattle.cmb_design_model.specs.Inner.PlainTable.{HoldsCells}
use Rattle.cmb_design_model.proofs.plain.fill_tick.Given as goal

abbrev pub invariant-loop-net : goal.invariant-loop-net
invariant-loop-net l = HoldsCells l.design l.table (l.tick * nets_of l.design + l.net)
