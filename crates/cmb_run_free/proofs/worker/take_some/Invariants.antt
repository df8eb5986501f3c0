use Rattle.cmb_run_free.specs.Inner.Channels.{IsFedBy, IsLater}
use Rattle.cmb_run_free.specs.Inner.Turns.{InGoes}
use Rattle.cmb_run_free.proofs.worker.take_some.Given as goal

abbrev pub invariant-loop : goal.invariant-loop
invariant-loop g l = record {
  fed : IsFedBy l.cluster l.end;
  later : IsLater l.fn.cluster l.cluster;
  goes : InGoes g.T.ClusterRun.design g.T.ClusterRun.clustering l.fn.cluster l.fn.end l.cluster l.end;
}
