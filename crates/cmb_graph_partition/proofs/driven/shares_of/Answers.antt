use Rattle.std.proofs.Common.{◌≡◌, ap, arith, length, length-append}
use Rattle.std.proofs.lemmas.List.Elements.{All-push}
use Rattle.cmb_graph_partition.specs.declared.shares.Share.{Share}
use Rattle.cmb_graph_partition.proofs.driven.shares_of.Goals as goal

pub loop-number-preserved : goal.loop-number-preserved
loop-number-preserved c = record {
  count = omega (arith, ap length c.in_ok-push.ensures.items, length-append {A = Share});
  marks = rw c.in_ok-push.ensures.items (All-push (λ (share : Share). length share.driven.items ≡ length c.args.sets.now) _ _ c.loop-number.invariant.marks c.in_ok-driven.ensures);
}
