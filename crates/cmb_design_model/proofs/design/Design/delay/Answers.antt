use Rattle.std.proofs.Common.{◌<◌, ◌≤◌, ap, arith, length, subst, sym}
use Rattle.cmb_design_model.specs.Design.{Design}
use Rattle.cmb_design_model.specs.Nets.{pins_at}
use Rattle.cmb_design_model.specs.Ranges.{IsDelay}
use Rattle.cmb_design_model.specs.Timing.{delay}
use Rattle.cmb_design_model.proofs.RowFacts.{length-starts, start_in}
use Rattle.cmb_design_model.proofs.FlatFacts.{flat-read, length-flat, start-read}
use Rattle.cmb_design_model.proofs.design.Design.delay.Goals as goal

pub index-requires : goal.index-requires
index-requires c =
    let i = c.self.inside in
    let h : c.args.net < length i.netlist.names = rw (sym c.self.view_is) at c.requires.net in
    omega (arith, h, length-starts i.netlist i.tables.starts.items c.self.invariant.starts)

pub overflow_add-index : goal.overflow_add-index
overflow_add-index c =
    let i = c.self.inside in
    let h : c.args.net < length i.netlist.names = rw (sym c.self.view_is) at c.requires.net in
    let high : c.args.pin ≤ pins_at i.netlist c.args.net = rw (sym c.self.view_is) at c.requires.high in
    let s = start-read i.netlist i.tables.starts.items c.args.net c.index.result.now c.self.invariant.starts h c.index.ensures in
    omega (arith, s, high, start_in i.netlist c.args.net h, c.self.invariant.room)

pub index-requires-2 : goal.index-requires-2
index-requires-2 c =
    let i = c.self.inside in
    let h : c.args.net < length i.netlist.names = rw (sym c.self.view_is) at c.requires.net in
    let high : c.args.pin ≤ pins_at i.netlist c.args.net = rw (sym c.self.view_is) at c.requires.high in
    let s = start-read i.netlist i.tables.starts.items c.args.net c.index.result.now c.self.invariant.starts h c.index.ensures in
    omega (arith, s, high, c.requires.low, start_in i.netlist c.args.net h, ap length c.self.invariant.delays, length-flat i.netlist i.delays (length i.netlist.names))

pub returns-clause-value : goal.returns-clause-value
returns-clause-value c =
    let i = c.self.inside in
    let h : c.args.net < length i.netlist.names = rw (sym c.self.view_is) at c.requires.net in
    let high : c.args.pin ≤ pins_at i.netlist c.args.net = rw (sym c.self.view_is) at c.requires.high in
    let s = start-read i.netlist i.tables.starts.items c.args.net c.index.result.now c.self.invariant.starts h c.index.ensures in
    rw (← c.self.view_is) (flat-read i.netlist i.delays i.tables.delays.items c.args.net c.args.pin c.index.result.now c.index-2.result.now c.self.invariant.delays h c.requires.low high s c.index-2.ensures)

pub returns-clause-small : goal.returns-clause-small
returns-clause-small c =
    rw (returns-clause-value c) (subst (λ (d : Design). IsDelay (delay d c.args.net c.args.pin)) c.self.view_is (c.self.invariant.lawful.delays c.args.net c.args.pin))
