use Rattle.cmb_design_model.specs.Value.{value}
use Rattle.cmb_activity.specs.Activities.{AreActivitiesOf}
use Rattle.cmb_activity.proofs.measure.all_at.Given as goal

abbrev pub invariant-loop-tally : goal.invariant-loop-tally
invariant-loop-tally l = AreActivitiesOf (value l.design) l.tally-index l.design.horizon l.all.items
