use Rattle.std.proofs.Common.{◌≡◌, All, None, vec_len}
use Rattle.cmb_run_free.specs.Inner.Channels.{IsOutlet}
use Rattle.cmb_run_free.specs.Inner.Turns.{OutGoes, outbound}
use Rattle.cmb_run_free.proofs.outbound.Out.put_nets.Given as goal

abbrev pub invariant-loop : goal.invariant-loop
invariant-loop g l = record {
  none : l.self-inside.waiting ≡ None;
  kept : All (IsOutlet g.T.ClusterRun.design.horizon l.self-inside.end) l.self-inside.outlets.items;
  long : vec_len l.self-inside.outlets ≡ l.end;
  goes : OutGoes g.T.ClusterRun.design g.T.ClusterRun.clustering l.cluster l.fn.self (outbound l.self-inside.end l.self-inside.waiting);
}
