use Rattle.std.proofs.Common.{◌≡◌, ◌∙◌, sym, subst, ap, length}
use Rattle.cmb_netlist.specs.declared.netlist.Driver.TheVariants.{Input, Gate, Flop}
use Rattle.cmb_netlist.specs.Netlist.{IsWired, driver_of}
use Rattle.cmb_netlist.proofs.Wired.{driver-wired}
use Rattle.cmb_design_model.specs.Gate.{gate}
use Rattle.cmb_design_model.specs.Value.{value, pin_levels}
use Rattle.cmb_design_model.proofs.PlainFacts.{length-pin_levels}
use Rattle.cmb_design_model.proofs.ValueFacts.{value-at_input, value-at_gate, value-at_flop}
use Rattle.cmb_design_model.proofs.plain_cells.level_of_cell.Goals as goal

pub returns-in-Input : goal.returns-in-Input
returns-in-Input c =
    let driver : driver_of c.args.design.now.netlist c.args.net ≡ Input = rw (sym c.netlist.ensures) (sym c.driver.ensures ∙ c.in-Input.is) in
    c.stim.ensures ∙ sym (value-at_input c.args.design.now c.args.net c.args.tick driver)

pub gate-requires : goal.gate-requires
gate-requires c =
    let driver : Gate c.in-Gate.kind c.in-Gate.operands ≡ driver_of c.args.design.now.netlist c.args.net = rw (sym c.netlist.ensures) (sym c.in-Gate.is ∙ c.driver.ensures) in
    let wired : IsWired (length c.args.design.now.netlist.names) (Gate c.in-Gate.kind c.in-Gate.operands) = subst (IsWired (length c.args.design.now.netlist.names)) (sym driver) (driver-wired c.args.design.now.netlist c.requires.wired c.args.net) in
    let n : length c.as_slice-in-Gate.result.now ≡ length c.in-Gate.operands =
    ap length (c.as_slice-in-Gate.ensures.value ∙ c.in_ok-collect_levels-in-Gate.ensures ∙ ap (pin_levels c.args.design.now (value c.args.design.now) c.args.net c.args.tick 1) c.as_slice.ensures)
    ∙ length-pin_levels c.args.design.now (value c.args.design.now) c.args.net c.args.tick 1 c.in-Gate.operands in
    rw n wired.0

pub returns-in_ok-collect_levels-in-Gate : goal.returns-in_ok-collect_levels-in-Gate
returns-in_ok-collect_levels-in-Gate c =
    let driver : driver_of c.args.design.now.netlist c.args.net ≡ Gate c.in-Gate.kind c.in-Gate.operands = rw (sym c.netlist.ensures) (sym c.driver.ensures ∙ c.in-Gate.is) in
    c.gate.ensures
    ∙ ap (gate c.in-Gate.kind) (c.as_slice-in-Gate.ensures.value ∙ c.in_ok-collect_levels-in-Gate.ensures ∙ ap (pin_levels c.args.design.now (value c.args.design.now) c.args.net c.args.tick 1) c.as_slice.ensures)
    ∙ sym (value-at_gate c.args.design.now c.args.net c.args.tick c.in-Gate.kind c.in-Gate.operands driver)

pub returns-in-Flop : goal.returns-in-Flop
returns-in-Flop c =
    let driver : driver_of c.args.design.now.netlist c.args.net ≡ Flop c.in-Flop.source = rw (sym c.netlist.ensures) (sym c.driver.ensures ∙ c.in-Flop.is) in
    c.level_of_flop.ensures ∙ sym (value-at_flop c.args.design.now c.args.net c.args.tick c.in-Flop.source driver)
