use Rattle.std.proofs.Common.{arith}
use Rattle.cmb_graph.proofs.SetFacts.{set_more}
use Rattle.cmb_graph.proofs.part.set_all.Goals as goal

pub loop-place-preserved : goal.loop-place-preserved
loop-place-preserved g c =
    let within = c.requires c.loop-place.place-index 0 c.loop-place-test.true in
    set_more c.args.value c.args.values.now c.loop-place.values c.args.places.now c.loop-place.place-index c.loop-place-test.true (omega (arith, within, c.loop-place.auto.values)) c.loop-place.invariant
