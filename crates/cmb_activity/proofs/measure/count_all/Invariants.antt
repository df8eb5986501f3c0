use Rattle.std.proofs.Common.{◌≡◌, ◌≤◌, ◌-◌}
use Rattle.cmb_design_model.specs.Exact.{nets_of}
use Rattle.cmb_design_model.specs.Value.{value}
use Rattle.cmb_activity.specs.Inner.Tallies.{AreTallies}
use Rattle.cmb_activity.proofs.measure.count_all.Given as goal

abbrev pub invariant-loop-engine : goal.invariant-loop-engine
invariant-loop-engine l =
    (l.engine.design ≡ l.design) × (l.engine.clock ≤ l.design.horizon) × AreTallies (value l.design) (nets_of l.design) l.engine.clock l.design.horizon l.tallies

abbrev pub decreases-loop-engine : goal.decreases-loop-engine
decreases-loop-engine l = l.design.horizon - l.engine.clock
