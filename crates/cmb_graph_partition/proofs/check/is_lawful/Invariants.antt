use Rattle.std.proofs.Common.{ℕ, ◌<◌}
use Rattle.cmb_graph_partition.specs.Partitions.{KnowsAll}
use Rattle.cmb_graph_partition.proofs.check.is_lawful.Given as goal

abbrev pub invariant-loop-number : goal.invariant-loop-number
invariant-loop-number l = (number : ℕ) → number < l.number → KnowsAll l.netlist l.partition number
