use Rattle.std.proofs.Common.{◌<◌, false, get_or, length, arith}
use Rattle.cmb_core_cluster.proofs.OpeningFacts.{mark_more}
use Rattle.cmb_core_cluster.proofs.open.mark_all.Goals as goal

pub loop-pin-preserved : goal.loop-pin-preserved
loop-pin-preserved c = λ net.
    let there = c.requires c.loop-pin.pin-index 0 c.loop-pin-test.true in
    let inside : get_or c.args.pins.now c.loop-pin.pin-index 0 < length c.loop-pin.read = omega (arith, there, c.loop-pin.auto.read) in
    mark_more c.args.pins.now c.loop-pin.read c.loop-pin.pin-index (get_or c.args.read.now net false) net c.loop-pin-test.true inside (c.loop-pin.invariant net)
