use Rattle.std.proofs.Common.{get_or, refl}
use Rattle.cmb_run_free.specs.Inner.Turns.{working}
use Rattle.cmb_run_free.proofs.TurnFacts.{Goes-again, own_promise}
use Rattle.cmb_run_free.proofs.worker.publish_each.Goals as goal
use Rattle.cmb_run_free.proofs.worker.publish_each.Goals.{in-Some, in_default}

pub loop-own-preserved : goal.loop-own-preserved
loop-own-preserved g c = λ ins outs.
    let cluster = c.args.cluster.now in
    elim c.match-promise.branch [
      | in-Some w ↦
          let own = own_promise cluster (get_or c.loop-own.own c.loop-own.own-index c.own-item.result).net w.in-Some.promise (w.in-Some.ensures.driven.0 refl) w.in-Some.ensures.promised in
          rw w.worker_seat-is (Goes-again g.T.ClusterRun.design g.T.ClusterRun.clustering (working cluster ins outs c.args.worker_seat.now.seat.view) (working cluster ins outs c.loop-own.worker_seat.seat.view) (working cluster ins outs w.publish.new.self.seat.view)
          (c.loop-own.invariant ins outs) (w.publish.ensures cluster ins outs own.0 own.1))
      | in_default w ↦ rw w.worker_seat-is (c.loop-own.invariant ins outs)
    ]
