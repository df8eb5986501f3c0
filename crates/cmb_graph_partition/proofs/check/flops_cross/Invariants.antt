use Rattle.std.proofs.Common.{ℕ, ◌<◌}
use Rattle.cmb_graph_partition.specs.Partitions.{Crosses, IsFlop}
use Rattle.cmb_graph_partition.proofs.check.flops_cross.Given as goal

abbrev pub invariant-loop-net : goal.invariant-loop-net
invariant-loop-net l = (net : ℕ) → net < l.net → Crosses l.partition net → IsFlop l.netlist net
