use Rattle.std.proofs.Common.{◌∙◌}
use Rattle.std.proofs.lemmas.List.{length-set}
use Rattle.cmb_cone.proofs.PartFacts.{places_more}
use Rattle.cmb_cone.proofs.part.places_of.Goals as goal

pub loop-i-preserved : goal.loop-i-preserved
loop-i-preserved c = record {
  long = length-set c.loop-i.places.items _ _ ∙ c.loop-i.invariant.long;
  back = places_more c.args.nets.now c.loop-i.places.items c.args.count c.loop-i.i c.requires.rising c.requires.nets c.loop-i.invariant.long c.loop-i-test.true c.loop-i.invariant.back;
}
