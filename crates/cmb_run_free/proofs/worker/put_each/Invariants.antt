use Rattle.std.proofs.Common.{List}
use Rattle.cmb_links.specs.Links.{TakeData}
use Rattle.cmb_links.specs.declared.view.View.{View}
use Rattle.cmb_run_free.specs.Inner.Turns.{Goes, working}
use Rattle.cmb_run_free.proofs.worker.put_each.Given as goal

abbrev pub invariant-loop-out : goal.invariant-loop-out
invariant-loop-out g l = (ins : List TakeData) (seat : View) → Goes g.T.ClusterRun.design g.T.ClusterRun.clustering (working l.cluster ins l.fn.outs seat) (working l.cluster ins l.outs seat)
