use Rattle.cmb_run_free.specs.Inner.Channels.{IsLater}
use Rattle.cmb_run_free.specs.Inner.Turns.{working}
use Rattle.cmb_run_free.proofs.ChannelFacts.{IsLater-again}
use Rattle.cmb_run_free.proofs.TurnFacts.{Goes-again, hear_goes}
use Rattle.cmb_run_free.proofs.worker.look_each.Goals as goal

pub loop-inlet-preserved-in_default : goal.loop-inlet-preserved-in_default
loop-inlet-preserved-in_default g c =
    record {
      later = c.loop-inlet.invariant.later;
      goes = λ ins outs.
          Goes-again g.T.ClusterRun.design g.T.ClusterRun.clustering (working c.args.cluster.now ins outs c.args.worker_seat.now.seat.view) (working c.loop-inlet.cluster ins outs c.loop-inlet.worker_seat.seat.view)
          (working c.loop-inlet.cluster ins outs c.look.new.self.seat.view) (c.loop-inlet.invariant.goes ins outs) (c.look.ensures.goes c.loop-inlet.cluster ins outs);
    }

pub loop-inlet-preserved-then-promise-inlet : goal.loop-inlet-preserved-then-promise-inlet
loop-inlet-preserved-then-promise-inlet g c =
    record {
      later = c.loop-inlet.invariant.later;
      goes = λ ins outs.
          Goes-again g.T.ClusterRun.design g.T.ClusterRun.clustering (working c.args.cluster.now ins outs c.args.worker_seat.now.seat.view) (working c.loop-inlet.cluster ins outs c.loop-inlet.worker_seat.seat.view)
          (working c.loop-inlet.cluster ins outs c.look.new.self.seat.view) (c.loop-inlet.invariant.goes ins outs) (c.look.ensures.goes c.loop-inlet.cluster ins outs);
    }

pub loop-inlet-preserved : goal.loop-inlet-preserved
loop-inlet-preserved g c =
    let before = c.loop-inlet.cluster in
    let now = c.hear-heard.new.self in
    let seat = c.look.new.self.seat.view in
    let later : IsLater before now = record { same = c.hear-heard.ensures.same; rises = c.hear-heard.ensures.rises } in
    record {
      later = IsLater-again c.args.cluster.now before now c.loop-inlet.invariant.later later;
      goes = λ ins outs.
          Goes-again g.T.ClusterRun.design g.T.ClusterRun.clustering (working c.args.cluster.now ins outs c.args.worker_seat.now.seat.view) (working before ins outs seat) (working now ins outs seat)
          (Goes-again g.T.ClusterRun.design g.T.ClusterRun.clustering (working c.args.cluster.now ins outs c.args.worker_seat.now.seat.view) (working before ins outs c.loop-inlet.worker_seat.seat.view) (working before ins outs seat)
          (c.loop-inlet.invariant.goes ins outs) (c.look.ensures.goes before ins outs))
          (hear_goes g.T.ClusterRun.design g.T.ClusterRun.clustering before now c.in-Some.promise seat c.in-Some.ensures.found c.hear-heard.ensures.waves ins outs);
    }
