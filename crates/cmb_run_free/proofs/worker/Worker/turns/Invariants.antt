use Rattle.cmb_run_free.specs.Inner.Turns.{Goes}
use Rattle.cmb_run_free.proofs.worker.Worker.turns.Given as goal

abbrev pub invariant-loop : goal.invariant-loop
invariant-loop g l =
    (goal.iterator-loop g).can_next l.iterator' × (goal.iterator-loop g).is_finite l.iterator'
    × Goes g.T.ClusterRun.design g.T.ClusterRun.clustering l.fn.self l.self
