use Rattle.std.proofs.Common.{◌≡◌, ℕ, ◌<◌, List, sym, subst, ap, ◌∙◌}
use Rattle.std.specs.Prelude.{All}
use Rattle.std.specs.List.{AllZip}
use Rattle.std.proofs.lemmas.Result.{on_ok_weaker}
use Rattle.cmb_netlist.specs.Netlist.{Netlist, driver_of}
use Rattle.cmb_netlist.specs.declared.netlist.Driver.TheVariants as driver
use Rattle.cmb_engine.specs.Inner.Cells.{Gate}
use Rattle.cmb_engine.specs.Inner.Plans.{cell_as, pins_from, CellStandsFor, StandsFor}
use Rattle.cmb_engine.specs.Inner.Roles.{role_of}
use Rattle.cmb_engine.specs.declared.cell.Pin.{Pin}
use Rattle.cmb_engine.specs.declared.role.Role.{Role}
use Rattle.cmb_engine.proofs.PlanFacts.{gate-stands, wired-flop, wired-gate}
use Rattle.cmb_engine.proofs.RoleFacts.{driven-is}
use Rattle.cmb_engine.proofs.plan.push_net.Goals as goal

pub collect_pins-requires-clause-within : goal.collect_pins-requires-clause-within
collect_pins-requires-clause-within c =
    let is : driver_of c.args.design.now.netlist c.args.net ≡ driver.Gate c.in-Gate.kind c.in-Gate.operands =
    ap (λ (netlist : Netlist). driver_of netlist c.args.net) (sym c.netlist.ensures) ∙ sym c.driver.ensures ∙ c.in-Gate.is in
    let wired = wired-gate c.args.design.now.netlist c.args.net c.in-Gate.kind c.in-Gate.operands c.requires.netlist is in
    subst (λ (operands : List ℕ). All (λ operand. operand < c.args.lines.now.nets) operands) (sym c.as_slice.ensures)
    (subst (λ (nets : ℕ). All (λ operand. operand < nets) c.in-Gate.operands) (sym c.requires.nets) wired.1)

pub push_flop-requires-clause-within : goal.push_flop-requires-clause-within
push_flop-requires-clause-within c =
    let is : driver_of c.args.design.now.netlist c.args.net ≡ driver.Flop c.in-Flop.source =
    ap (λ (netlist : Netlist). driver_of netlist c.args.net) (sym c.netlist.ensures) ∙ sym c.driver.ensures ∙ c.in-Flop.is in
    subst (λ (nets : ℕ). c.in-Flop.source < nets) (sym c.requires.nets)
    (wired-flop c.args.design.now.netlist c.args.net c.in-Flop.source c.requires.netlist is)

pub returns-in_ok-collect_pins-in-Gate-clause-cell : goal.returns-in_ok-collect_pins-in-Gate-clause-cell
returns-in_ok-collect_pins-in-Gate-clause-cell c =
    let design = c.args.design.now in
    let lines = c.collect_pins.new.lines in
    let pins : List Pin = c.as_slice-in-Gate.result.now in
    let is : driver_of design.netlist c.args.net ≡ driver.Gate c.in-Gate.kind c.in-Gate.operands =
    ap (λ (netlist : Netlist). driver_of netlist c.args.net) (sym c.netlist.ensures) ∙ sym c.driver.ensures ∙ c.in-Gate.is in
    let wired = wired-gate design.netlist c.args.net c.in-Gate.kind c.in-Gate.operands c.requires.netlist is in
    let stand : AllZip (StandsFor lines.nets lines.list.items lines.most) (pins_from design c.args.net 1 c.in-Gate.operands) pins =
    subst (λ (operands : List ℕ). AllZip (StandsFor lines.nets lines.list.items lines.most) (pins_from design c.args.net 1 operands) pins) c.as_slice.ensures
    (subst (λ (pins : List Pin). AllZip (StandsFor lines.nets lines.list.items lines.most) (pins_from design c.args.net 1 c.as_slice.result.now) pins)
    (sym c.as_slice-in-Gate.ensures.value) c.in_ok-collect_pins-in-Gate.ensures.pins) in
    on_ok_weaker c.push_gate.result
    (λ pushed. record {
      cell = Gate c.in-Gate.kind pins;
      pushed = pushed;
      stands = subst (λ (role : Role). CellStandsFor lines.nets lines.list.items lines.most (cell_as design c.args.net role) (Gate c.in-Gate.kind pins))
          (sym (driven-is (role_of c.args.roles.now c.args.net) (sym c.is_driven.ensures ∙ c.if-not-is_driven.false)))
          (gate-stands design c.args.net c.in-Gate.kind c.in-Gate.operands lines.nets lines.list.items lines.most pins is wired.0 stand);
    }) c.push_gate.ensures
