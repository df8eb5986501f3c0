use Rattle.std.proofs.Common.{◌≡◌}
use Rattle.cmb_design_model.specs.Exact.{nets_of}
use Rattle.cmb_engine.specs.Inner.Plans.{AreCells}
use Rattle.cmb_engine.proofs.plan.net_cells.Given as goal

abbrev pub invariant-loop-net : goal.invariant-loop-net
invariant-loop-net l = record {
  nets : l.lines.nets ≡ nets_of l.design;
  cells : AreCells l.design l.roles l.net l.cells l.lines.list.items l.lines.most;
}
