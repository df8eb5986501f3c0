use Rattle.cmb_dump.proofs.PickFacts.{placed_more}
use Rattle.cmb_dump.proofs.pick.places_of.Goals as goal

pub loop-place-preserved : goal.loop-place-preserved
loop-place-preserved c = placed_more c.args.count c.args.nets.now _ c.loop-place.place c.requires c.loop-place-test.true c.loop-place.invariant
