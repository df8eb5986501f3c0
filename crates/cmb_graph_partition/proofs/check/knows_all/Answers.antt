use Rattle.std.proofs.Common.{ℕ, arith}
use Rattle.std.specs.Prelude.{All}
use Rattle.cmb_netlist.specs.Netlist.{driver_of, pins_of}
use Rattle.cmb_graph_partition.specs.Partitions.{Knows, ShareDrives}
use Rattle.cmb_graph_partition.proofs.PartitionFacts.{share_drives_not, upto_more}
use Rattle.cmb_graph_partition.proofs.check.knows_all.Goals.{else-index-via-then-index+else-not-knows_asked, else-index-via-else-index}
use Rattle.cmb_graph_partition.proofs.check.knows_all.Goals as goal

pub loop-net-preserved : goal.loop-net-preserved
loop-net-preserved c =
    let P : ℕ → Type 0 = λ net. ShareDrives c.args.partition.now c.args.number net → All (Knows c.args.partition.now c.args.number) (pins_of (driver_of c.args.netlist.now net)) in
    upto_more P c.loop-net.net c.loop-net.invariant (elim c.else-index.branch [
      | else-index-via-then-index+else-not-knows_asked w ↦ (λ driving. w.knows_asked.ensures w.if-not-knows_asked.false)
      | else-index-via-else-index w ↦ (λ driving. absurd (share_drives_not c.args.netlist.now c.args.partition.now c.args.number c.loop-net.net c.index.result.now c.index-in-loop-net.result.now
          c.requires.number (omega (arith, c.loop-net-test.true, c.len-net-end.ensures.value)) c.requires.shaped.marks c.index.ensures c.index-in-loop-net.ensures w.if-index.false driving))
    ])
