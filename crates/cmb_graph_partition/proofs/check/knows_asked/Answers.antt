use Rattle.std.proofs.Common.{arith}
use Rattle.cmb_graph_partition.specs.Partitions.{Knows}
use Rattle.cmb_netlist.specs.Netlist.{driver_of, pins_of}
use Rattle.cmb_graph_partition.proofs.PartitionFacts.{all_more, all_taken}
use Rattle.cmb_graph_partition.proofs.check.knows_asked.Goals as goal

pub loop-other-preserved : goal.loop-other-preserved
loop-other-preserved c =
    all_more (Knows c.args.partition.now c.args.number) c.targets_from-other-items.result.now c.loop-other.other-index 0 c.loop-other-test.true c.loop-other.invariant (c.knows.ensures c.if-not-knows.false)

pub returns : goal.returns
returns c = λ whole.
    all_taken (Knows c.args.partition.now c.args.number) c.targets_from-other-items.result.now (pins_of (driver_of c.args.netlist.now c.args.net)) c.loop-other.other-index
    (omega (arith, c.loop-other-test.false)) c.targets_from-other-items.ensures c.loop-other.invariant
