use Rattle.std.proofs.Common.{arith, set}
use Rattle.std.proofs.lemmas.List.Elements.{All-set}
use Rattle.cmb_run_free.specs.Inner.Channels.{IsFedBy}
use Rattle.cmb_run_free.specs.Inner.Turns.{working}
use Rattle.cmb_run_free.proofs.ChannelFacts.{all_fed-later, IsLater-again}
use Rattle.cmb_run_free.proofs.TurnFacts.{Goes-again, InGoes-at}
use Rattle.cmb_run_free.proofs.worker.take_each.Goals as goal

pub loop-end-preserved : goal.loop-end-preserved
loop-end-preserved g c = record {
  fed = All-set (IsFedBy c.take_some.new.cluster) c.loop-end.ends c.loop-end.end-index c.take_some.new.end c.in_ok-found.ensures.fed
      (all_fed-later c.loop-end.cluster c.take_some.new.cluster c.take_some.ensures.later c.loop-end.ends c.loop-end.invariant.fed);
  later = IsLater-again c.args.cluster.now c.loop-end.cluster c.take_some.new.cluster c.loop-end.invariant.later c.take_some.ensures.later;
  goes = λ outs seat.
      Goes-again g.T.ClusterRun.design g.T.ClusterRun.clustering (working c.args.cluster.now c.args.ends.now outs seat) (working c.loop-end.cluster c.loop-end.ends outs seat)
      (working c.take_some.new.cluster (set c.loop-end.ends c.loop-end.end-index c.take_some.new.end) outs seat) (c.loop-end.invariant.goes outs seat)
      (InGoes-at g.T.ClusterRun.design g.T.ClusterRun.clustering c.loop-end.cluster c.take_some.new.cluster c.loop-end.ends c.loop-end.end-index c.end-item.result c.take_some.new.end (omega arith) c.in_ok-found.ensures.goes outs seat);
}
