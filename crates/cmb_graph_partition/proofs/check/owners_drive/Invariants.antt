use Rattle.std.proofs.Common.{ℕ, ◌<◌}
use Rattle.cmb_graph_partition.specs.Partitions.{Drives, Owns}
use Rattle.cmb_graph_partition.specs.declared.shares.Share.{Share}
use Rattle.cmb_graph_partition.proofs.check.owners_drive.Given as goal

abbrev pub invariant-loop-net : goal.invariant-loop-net
invariant-loop-net l = (net : ℕ) → net < l.net → (owner : Share) × Owns l.partition owner net × Drives owner net
