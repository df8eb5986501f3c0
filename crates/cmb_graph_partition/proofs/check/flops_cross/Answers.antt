use Rattle.std.proofs.Common.{ℕ, false, sym, ◌∙◌, arith}
use Rattle.std.proofs.lemmas.Bool.{false≢true}
use Rattle.std.proofs.lemmas.List.{get_or_read}
use Rattle.cmb_graph_partition.specs.Partitions.{Crosses, IsFlop}
use Rattle.cmb_graph_partition.proofs.PartitionFacts.{upto_more}
use Rattle.cmb_graph_partition.proofs.check.flops_cross.Goals.{else-index-via-then-index+else-not-is_flop, else-index-via-else-index}
use Rattle.cmb_graph_partition.proofs.check.flops_cross.Goals as goal

pub loop-net-preserved : goal.loop-net-preserved
loop-net-preserved c =
    let P : ℕ → Type 0 = λ net. Crosses c.args.partition.now net → IsFlop c.args.netlist.now net in
    upto_more P c.loop-net.net c.loop-net.invariant (elim c.else-index.branch [
      | else-index-via-then-index+else-not-is_flop w ↦ (λ crosses. w.is_flop.ensures w.if-not-is_flop.false)
      | else-index-via-else-index w ↦ (λ crosses.
          let read = get_or_read c.args.partition.now.crossing.items c.loop-net.net c.index.result.now
          (omega (arith, c.requires.crossed, c.loop-net-test.true, c.len-net-end.ensures.value)) c.index.ensures false in
          absurd (false≢true (sym w.if-index.false ∙ read ∙ crosses)))
    ])
