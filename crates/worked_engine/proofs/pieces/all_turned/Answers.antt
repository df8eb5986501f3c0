use Rattle.std.proofs.Common.{◌+◌, List, arith, subst, sym}
use Rattle.cmb_words.specs.Changes.{RisesWithin}
use Rattle.cmb_words.specs.declared.changed.Changed.{Changed}
use Rattle.cmb_words.proofs.Rising.{rises-push}
use Rattle.worked_engine.proofs.pieces.all_turned.Goals as goal

pub loop-net-preserved : goal.loop-net-preserved
loop-net-preserved c =
    let net = c.loop-net.net in
    let one = c.turned.result in
    subst (λ (changed : List Changed). RisesWithin 0 (net + 1) changed) (sym {A = List Changed} c.in_ok-push.ensures.items)
    (rises-push 0 net (net + 1) c.loop-net.changed.items one c.loop-net.invariant (omega arith) (omega arith) (omega arith))
