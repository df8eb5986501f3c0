use Rattle.std.proofs.Common.{List}
use Rattle.cmb_links.specs.Links.{TakeData}
use Rattle.cmb_run_free.specs.Inner.Channels.{IsLater, Outbound}
use Rattle.cmb_run_free.specs.Inner.Turns.{Goes, working}
use Rattle.cmb_run_free.proofs.worker.look_each.Given as goal

abbrev pub invariant-loop-inlet : goal.invariant-loop-inlet
invariant-loop-inlet g l = record {
  later : IsLater l.fn.cluster l.cluster;
  goes : (ins : List TakeData) (outs : List Outbound) → Goes g.T.ClusterRun.design g.T.ClusterRun.clustering (working l.fn.cluster ins outs l.fn.worker_seat.seat.view) (working l.cluster ins outs l.worker_seat.seat.view);
}
