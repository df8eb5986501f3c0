use Rattle.std.proofs.Common.{◌++◌, ◌∙◌, ap, sym}
use Rattle.cmb_design_model.specs.Timing.{flat_delays, net_delays}
use Rattle.cmb_design_model.proofs.FlatFacts.{flat-next}
use Rattle.cmb_design_model.proofs.delays.all_delays.Goals as goal

pub loop-net-init : goal.loop-net-init
unfolding flat_delays
loop-net-init c = c.in_ok-flat.ensures.items

pub loop-net-preserved : goal.loop-net-preserved
loop-net-preserved c =
    let netlist = c.args.netlist.now in
    let rows = c.args.rows.now in
    let net = c.loop-net.net in
    c.in_ok-push_delays.ensures ∙ ap (λ t. t ++ net_delays netlist rows net) c.loop-net.invariant ∙ sym (flat-next netlist rows net)
