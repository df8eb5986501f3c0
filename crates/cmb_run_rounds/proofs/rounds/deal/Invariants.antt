use Rattle.cmb_run_rounds.proofs.RoundFacts.{AreDealt}
use Rattle.cmb_run_rounds.proofs.rounds.deal.Given as goal

abbrev pub invariant-loop-worker : goal.invariant-loop-worker
invariant-loop-worker g l = AreDealt g.T.ClusterRun.design g.T.ClusterRun.clustering l.worker l.hands.items
