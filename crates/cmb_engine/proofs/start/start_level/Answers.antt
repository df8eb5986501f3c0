use Rattle.std.proofs.Common.{sym, ap, subst, ◌∙◌}
use Rattle.cmb_netlist.specs.Netlist.{IsNetlist, Netlist, driver_of}
use Rattle.cmb_design_model.proofs.ValueFacts.{value-at_input}
use Rattle.cmb_engine.proofs.ZeroFacts.{gate-starts, flop-starts}
use Rattle.cmb_engine.proofs.start.start_level.Goals as goal

pub returns-in-Input : goal.returns-in-Input
returns-in-Input c =
    c.stim.ensures ∙ sym (value-at_input c.args.design.now c.args.net 0
    (ap (λ (netlist : Netlist). driver_of netlist c.args.net) (sym c.netlist-netlist.ensures) ∙ sym c.driver.ensures ∙ c.in-Input.is))

pub returns-in-Gate : goal.returns-in-Gate
returns-in-Gate c =
    sym (gate-starts c.args.design.now c.args.net _ _ (subst IsNetlist c.netlist-netlist.ensures c.len-nets.ensures.sound)
    (ap (λ (netlist : Netlist). driver_of netlist c.args.net) (sym c.netlist-netlist.ensures) ∙ sym c.driver.ensures ∙ c.in-Gate.is))

pub returns-in-Flop : goal.returns-in-Flop
returns-in-Flop c =
    c.init.ensures ∙ sym (flop-starts c.args.design.now c.args.net _
    (ap (λ (netlist : Netlist). driver_of netlist c.args.net) (sym c.netlist-netlist.ensures) ∙ sym c.driver.ensures ∙ c.in-Flop.is))
