use Rattle.std.proofs.Common.{drop}
use Rattle.cmb_design_model.specs.Exact.{nets_of}
use Rattle.cmb_design_model.specs.Value.{value}
use Rattle.cmb_activity.proofs.WindowFacts.{AreCounted}
use Rattle.cmb_activity.proofs.measure.count_window.Given as goal

abbrev pub invariant-loop-one : goal.invariant-loop-one
invariant-loop-one l =
    AreCounted (value l.design) (nets_of l.design) l.fn.from l.fn.upto l.design.horizon (drop l.one-index l.changed) l.tallies
