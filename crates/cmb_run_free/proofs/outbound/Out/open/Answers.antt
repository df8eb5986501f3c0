use Rattle.cmb_run_free.proofs.ChannelFacts.{IsOutbound-new}
use Rattle.cmb_run_free.proofs.outbound.Out.open.Goals as goal

pub invariant_of-out : goal.invariant_of-out
invariant_of-out g c = IsOutbound-new g.T.ClusterRun.design.horizon c.in_ok-end.end c.args.nets.now c.in_ok-outlets.outlets.items c.in_ok-end.ensures.put.0 c.in_ok-outlets.ensures
