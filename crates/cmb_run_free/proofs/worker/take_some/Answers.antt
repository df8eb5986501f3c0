use Rattle.std.proofs.Common.{arith, subst, sym}
use Rattle.cmb_run_free.specs.Inner.Channels.{IsFedBy, IsLater}
use Rattle.cmb_run_free.proofs.ChannelFacts.{IsFedBy-given, IsLater-again, may_give}
use Rattle.cmb_run_free.proofs.TurnFacts.{InGoes-again, deliver_goes, delivered_is}
use Rattle.cmb_run_free.proofs.worker.take_some.Goals as goal

pub loop-preserved : goal.loop-preserved
loop-preserved g c =
    let before = c.loop.cluster in
    let now = c.deliver-delivered.new.self in
    let piece = c.in-Some.posted in
    let later : IsLater before now = record { same = c.deliver-delivered.ensures.same; rises = c.deliver-delivered.ensures.rises } in
    let may = may_give before c.loop.end piece c.loop.invariant.fed c.in-Some.ensures.net c.in-Some.ensures.joined in
    let is = delivered_is before now piece later.same may.0 may.1 (c.in_ok-delivered.ensures.passed may.0 may.1) c.deliver-delivered.ensures.still in
    record {
      fed = subst (IsFedBy now) (sym c.in-Some.ensures.some) (IsFedBy-given before now c.loop.end piece c.loop.invariant.fed later (omega (arith, is.met)));
      later = IsLater-again c.args.cluster.now before now c.loop.invariant.later later;
      goes = InGoes-again g.T.ClusterRun.design g.T.ClusterRun.clustering c.args.cluster.now before now c.args.end.now c.loop.end c.take.new.self c.loop.invariant.goes
          (deliver_goes g.T.ClusterRun.design g.T.ClusterRun.clustering before now c.loop.end c.take.new.self piece is c.in-Some.ensures.some);
    }
