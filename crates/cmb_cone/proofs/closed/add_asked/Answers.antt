use Rattle.std.proofs.Common.{List, ℕ, ◌<◌, length, sym, subst, ap, ◌∙◌}
use Rattle.std.specs.Prelude.{All}
use Rattle.cmb_netlist.specs.Netlist.{pins_of}
use Rattle.cmb_netlist.proofs.Wired.{pins-below}
use Rattle.cmb_cone.proofs.closed.add_asked.Goals as goal

pub add_all-requires-clause-nets : goal.add_all-requires-clause-nets
add_all-requires-clause-nets c =
    let read = c.pins.ensures ∙ ap pins_of c.driver.ensures in
    subst (λ (pins : List ℕ). All (λ pin. pin < length c.args.found.now.marks.items) pins) (sym read)
    (rw c.requires.marks (pins-below c.args.netlist.now c.requires.sound c.args.net))
