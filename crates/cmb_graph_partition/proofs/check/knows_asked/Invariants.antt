use Rattle.std.proofs.Common.{take}
use Rattle.std.specs.Prelude.{All}
use Rattle.cmb_graph_partition.specs.Partitions.{Knows}
use Rattle.cmb_graph_partition.proofs.check.knows_asked.Given as goal

abbrev pub invariant-loop-other : goal.invariant-loop-other
invariant-loop-other l = All (Knows l.partition l.number) (take l.other-index l.other-items)
