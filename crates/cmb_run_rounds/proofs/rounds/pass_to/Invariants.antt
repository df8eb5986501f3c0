use Rattle.cmb_run_rounds.proofs.RoundFacts.{IsServedTo}
use Rattle.cmb_run_rounds.proofs.rounds.pass_to.Given as goal

abbrev pub invariant-loop-place : goal.invariant-loop-place
invariant-loop-place g l = IsServedTo g.T.ClusterRun.design g.T.ClusterRun.clustering l.fn.reader l.place l.initial.hands l.hands
