use Rattle.std.proofs.Common.{◌<◌, arith}
use Rattle.cmb_design_model.specs.Exact.{nets_of}
use Rattle.cmb_design_model.specs.Value.{value}
use Rattle.cmb_activity.proofs.TallyFacts.{most_of}
use Rattle.cmb_activity.proofs.measure.all_at.Goals as goal

pub activity-requires-clause-most : goal.activity-requires-clause-most
activity-requires-clause-most c =
    omega (
      arith,
      most_of (value c.args.design.now c.loop-tally.tally-index) c.args.design.now.horizon _ (omega (arith, c.horizon-horizon.ensures.value, c.horizon-horizon.ensures.small.1)) (c.requires.each c.loop-tally.tally-index (record { counts = 0 }) small),
      c.horizon-horizon.ensures.value,
    )
  where
    small : c.loop-tally.tally-index < nets_of c.args.design.now
    small = omega (arith, c.loop-tally-test.true, c.requires.count)
