use Rattle.cmb_run_rounds.proofs.RoundFacts.{IsExchangedTo}
use Rattle.cmb_run_rounds.proofs.rounds.pass_on.Given as goal

abbrev pub invariant-loop-reader : goal.invariant-loop-reader
invariant-loop-reader g l = IsExchangedTo g.T.ClusterRun.design g.T.ClusterRun.clustering l.reader l.initial.hands l.hands
