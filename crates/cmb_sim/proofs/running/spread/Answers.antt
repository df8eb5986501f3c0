use Rattle.std.proofs.Common.{◌∙◌, ap, length}
use Rattle.std.proofs.lemmas.Result.{IfOk-weaker}
use Rattle.cmb_netlist.specs.Netlist.{Netlist}
use Rattle.cmb_sim.proofs.RoundRuns.{round_robin-nets}
use Rattle.cmb_sim.proofs.running.spread.Goals as goal

pub returns : goal.returns
returns c =
    let counted = c.len.ensures.value ∙ ap (λ (n : Netlist). length n.names) c.netlist.ensures in
    IfOk-weaker c.round_robin.result _ _ (λ spread is. round_robin-nets _ c.args.clusters.count spread is ∙ counted) c.round_robin.ensures
