use Rattle.cmb_core_cluster.proofs.Sweeps.{IsSwept}
use Rattle.cmb_core_cluster.proofs.cluster.Cluster.step_all.Given as goal

abbrev pub invariant-loop-slot : goal.invariant-loop-slot
invariant-loop-slot l = IsSwept l.initial.self l.self l.slot l.rose
