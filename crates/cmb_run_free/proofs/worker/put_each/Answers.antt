use Rattle.std.proofs.Common.{arith, set}
use Rattle.cmb_run_free.specs.Inner.Turns.{working}
use Rattle.cmb_run_free.proofs.TurnFacts.{Goes-again, OutGoes-at}
use Rattle.cmb_run_free.proofs.worker.put_each.Goals as goal

pub returns-in_err-is_left : goal.returns-in_err-is_left
returns-in_err-is_left g c = λ ins seat.
    let cluster = c.args.cluster.now in
    Goes-again g.T.ClusterRun.design g.T.ClusterRun.clustering (working cluster ins c.args.outs.now seat) (working cluster ins c.loop-out.outs seat) (working cluster ins (set c.loop-out.outs c.loop-out.out-index c.put_all.new.self) seat)
    (c.loop-out.invariant ins seat)
    (OutGoes-at g.T.ClusterRun.design g.T.ClusterRun.clustering cluster c.loop-out.outs c.loop-out.out-index c.out-item.result c.put_all.new.self (omega arith) c.put_all.ensures ins seat)

pub loop-out-preserved : goal.loop-out-preserved
loop-out-preserved g c = λ ins seat.
    let cluster = c.args.cluster.now in
    Goes-again g.T.ClusterRun.design g.T.ClusterRun.clustering (working cluster ins c.args.outs.now seat) (working cluster ins c.loop-out.outs seat) (working cluster ins (set c.loop-out.outs c.loop-out.out-index c.put_all.new.self) seat)
    (c.loop-out.invariant ins seat)
    (OutGoes-at g.T.ClusterRun.design g.T.ClusterRun.clustering cluster c.loop-out.outs c.loop-out.out-index c.out-item.result c.put_all.new.self (omega arith) c.put_all.ensures ins seat)
