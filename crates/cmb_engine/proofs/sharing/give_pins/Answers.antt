use Rattle.std.proofs.Common.{ℕ, ◌<◌, List, length, sym, subst, ap, ◌∙◌}
use Rattle.std.specs.Prelude.{All}
use Rattle.cmb_netlist.proofs.Wired.{pins-below}
use Rattle.cmb_netlist.specs.Netlist.{Netlist, driver_of, pins_of}
use Rattle.cmb_engine.proofs.sharing.give_pins.Goals as goal

pub give_all-requires : goal.give_all-requires
give_all-requires c =
    let read = c.pins.ensures ∙ ap pins_of (c.driver.ensures ∙ ap (λ (netlist : Netlist). driver_of netlist c.args.net) c.netlist.ensures) in
    subst (λ (pins : List ℕ). All (λ pin. pin < length c.args.roles.now) pins) (sym read)
    (rw c.requires.count (pins-below c.args.design.now.netlist c.requires.netlist c.args.net))
