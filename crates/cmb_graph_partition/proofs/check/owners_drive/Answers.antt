use Rattle.std.proofs.Common.{ℕ, ◌<◌, arith, length}
use Rattle.cmb_graph_partition.specs.Partitions.{Drives, Owns}
use Rattle.cmb_graph_partition.specs.declared.shares.Share.{Share}
use Rattle.cmb_graph_partition.proofs.PartitionFacts.{drives_read, owns_read, upto_more, within_marks}
use Rattle.cmb_graph_partition.proofs.check.owners_drive.Goals as goal

pub loop-net-preserved : goal.loop-net-preserved
loop-net-preserved c =
    let P : ℕ → Type 0 = λ net. (owner : Share) × Owns c.args.partition.now owner net × Drives owner net in
    let within : c.loop-net.net < length c.args.netlist.now.names = omega (arith, c.loop-net-test.true, c.len-net-end.ensures.value) in
    let owns = owns_read c.args.partition.now c.index-owner.result.now c.loop-net.net c.index.result.now (omega (arith, c.requires.nets, within)) c.requires.below c.index.ensures c.index-owner.ensures in
    let long = within_marks c.args.netlist.now c.args.partition.now c.index-owner.result.now c.loop-net.net c.requires.marks owns in
    upto_more P c.loop-net.net c.loop-net.invariant (
      c.index-owner.result.now,
      owns,
      drives_read c.index-owner.result.now c.loop-net.net c.index-in-loop-net.result.now (omega (arith, long, within)) c.index-in-loop-net.ensures c.if-not-index.false,
    )

pub returns : goal.returns
returns c = λ whole net within. c.loop-net.invariant net (omega (arith, within, c.loop-net-test.false, c.len-net-end.ensures.value))
