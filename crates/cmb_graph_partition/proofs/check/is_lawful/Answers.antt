use Rattle.std.proofs.Common.{◌≡◌, length, vec_len, arith}
use Rattle.cmb_graph_partition.specs.Partitions.{KnowsAll}
use Rattle.cmb_graph_partition.proofs.PartitionFacts.{upto_more}
use Rattle.cmb_graph_partition.proofs.check.is_lawful.Goals as goal

pub loop-number-preserved : goal.loop-number-preserved
loop-number-preserved c =
    upto_more (KnowsAll c.args.netlist.now c.args.partition.now) c.loop-number.number c.loop-number.invariant (c.knows_all.ensures c.if-not-knows_all.false)

pub returns : goal.returns
returns c = λ whole. record {
  nets = c.requires.nets;
  crossed = c.requires.crossed;
  few = c.requires.few;
  marks = c.requires.marks;
  owned = c.owners_drive.ensures c.if-not-owners_drive.false;
  sampled = c.flops_cross.ensures c.if-not-flops_cross.false;
  known =
      let long : vec_len c.args.partition.now.shares ≡ length c.args.partition.now.shares.items = let ok = c.args.partition.now.shares.ok.0 in omega (arith, ok) in
      λ number within. c.loop-number.invariant number (omega (arith, within, long, c.loop-number-test.false, c.len-number-end.ensures));
}
