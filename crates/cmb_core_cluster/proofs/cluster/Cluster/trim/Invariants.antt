use Rattle.cmb_core_cluster.proofs.TrimFacts.{TrimmedSoFar}
use Rattle.cmb_core_cluster.proofs.cluster.Cluster.trim.Given as goal

abbrev pub invariant-loop-slot : goal.invariant-loop-slot
invariant-loop-slot l = TrimmedSoFar l.initial.self l.self l.slot
