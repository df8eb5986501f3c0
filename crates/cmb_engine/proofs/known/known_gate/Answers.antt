use Rattle.std.proofs.Common.{◌≤◌, get_or, arith}
use Rattle.cmb_engine.specs.Inner.Cells.{seen}
use Rattle.cmb_engine.specs.Inner.Known.{known_levels}
use Rattle.cmb_engine.proofs.WordFacts.{joint-pins}
use Rattle.cmb_engine.proofs.known.known_gate.Goals as goal

pub loop-k-preserved : goal.loop-k-preserved
loop-k-preserved c = λ place from small.
    let within : (get_or c.args.pins.now c.loop-k.k (record { net = 0; delay = 0 })).delay ≤ c.args.first = c.requires.within c.loop-k.k _ c.loop-k-test.true in
    joint-pins c.args.kind (seen (known_levels c.args.ones.now) place) c.args.pins.now c.loop-k.k (record { net = 0; delay = 0 }) _ _ _
    c.loop-k.auto.k c.loop-k-test.true
    (c.seen_ones.ensures place (omega arith) small) (c.join_known-joined.ensures place small) (c.loop-k.invariant place from small)
