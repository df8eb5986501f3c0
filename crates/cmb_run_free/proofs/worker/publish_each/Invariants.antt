use Rattle.std.proofs.Common.{List}
use Rattle.cmb_links.specs.Links.{TakeData}
use Rattle.cmb_run_free.specs.Inner.Channels.{Outbound}
use Rattle.cmb_run_free.specs.Inner.Turns.{Goes, working}
use Rattle.cmb_run_free.proofs.worker.publish_each.Given as goal

abbrev pub invariant-loop-own : goal.invariant-loop-own
invariant-loop-own g l = (ins : List TakeData) (outs : List Outbound) → Goes g.T.ClusterRun.design g.T.ClusterRun.clustering (working l.cluster ins outs l.fn.worker_seat.seat.view) (working l.cluster ins outs l.worker_seat.seat.view)
