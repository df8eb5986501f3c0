use Rattle.cmb_design_model.specs.Value.{value}
use Rattle.cmb_activity.specs.Inner.Tallies.{AreTallies}
use Rattle.cmb_activity.proofs.measure.first_tallies.Given as goal

abbrev pub invariant-loop-net : goal.invariant-loop-net
invariant-loop-net l = AreTallies (value l.fn.design) l.net 1 l.fn.design.horizon l.tallies.items
