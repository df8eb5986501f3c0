use Rattle.std.proofs.Common.{◌≡◌, ◌∙◌, sym, ap, Some, None}
use Rattle.cmb_netlist.specs.Netlist.{driver_of}
use Rattle.cmb_design_model.specs.Nets.{driver_cell}
use Rattle.cmb_design_model.specs.Timing.{delay_in, is_of_kind}
use Rattle.cmb_design_model.proofs.SettingFacts.{cell_below, delay_in-kind, delay_in-none}
use Rattle.cmb_design_model.proofs.delays.of_kind.Goals as goal

pub returns-in-Some : goal.returns-in-Some
returns-in-Some c =
    let netlist = c.args.netlist.now in
    let e : driver_cell (driver_of netlist c.args.net) ≡ Some c.in-Some.kind = sym (c.in-Some.ensures ∙ ap driver_cell c.driver.ensures) in
    c.read_place.ensures ∙ sym (ap (λ k. delay_in (is_of_kind k) c.args.rows.now) e ∙ delay_in-kind netlist c.args.rows.now c.in-Some.kind (cell_below (driver_of netlist c.args.net) c.in-Some.kind e))

pub returns-in-None : goal.returns-in-None
returns-in-None c =
    let netlist = c.args.netlist.now in
    let e : driver_cell (driver_of netlist c.args.net) ≡ None = sym (c.in-None.ensures ∙ ap driver_cell c.driver.ensures) in
    sym (ap (λ k. delay_in (is_of_kind k) c.args.rows.now) e ∙ delay_in-none c.args.rows.now)
