use Rattle.std.proofs.Common.{All, List}
use Rattle.cmb_links.specs.declared.view.View.{View}
use Rattle.cmb_run_free.specs.Inner.Channels.{IsFedBy, IsLater, Outbound}
use Rattle.cmb_run_free.specs.Inner.Turns.{Goes, working}
use Rattle.cmb_run_free.proofs.worker.take_each.Given as goal

abbrev pub invariant-loop-end : goal.invariant-loop-end
invariant-loop-end g l = record {
  fed : All (IsFedBy l.cluster) l.ends;
  later : IsLater l.fn.cluster l.cluster;
  goes : (outs : List Outbound) (seat : View) → Goes g.T.ClusterRun.design g.T.ClusterRun.clustering (working l.fn.cluster l.fn.ends outs seat) (working l.cluster l.ends outs seat);
}
