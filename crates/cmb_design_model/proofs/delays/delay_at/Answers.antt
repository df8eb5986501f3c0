use Rattle.std.proofs.Common.{◌≡◌, ◌∙◌, arith, sym, refl}
use Rattle.cmb_design_model.specs.Timing.{delay_by, delay_in, is_of_net, is_of_pin}
use Rattle.cmb_design_model.proofs.RowFacts.{length-starts, start_in, starts-at}
use Rattle.cmb_design_model.proofs.SettingFacts.{delay_in-net, delay_in-pin}
use Rattle.cmb_design_model.proofs.delays.delay_at.Goals as goal

pub bounds-starts-net : goal.bounds-starts-net
bounds-starts-net c = omega (arith, length-starts c.args.netlist.now c.args.starts.now c.requires.starts)

pub overflow_add-place-2 : goal.overflow_add-place-2
overflow_add-place-2 c =
    let netlist = c.args.netlist.now in
    omega (arith, starts-at netlist c.args.starts.now c.args.net c.requires.starts c.requires.net, start_in netlist c.args.net c.requires.net, c.len.ensures.value, c.requires.room)

pub overflow_add-place-3 : goal.overflow_add-place-3
overflow_add-place-3 c =
    let netlist = c.args.netlist.now in
    omega (arith, starts-at netlist c.args.starts.now c.args.net c.requires.starts c.requires.net, start_in netlist c.args.net c.requires.net, c.len.ensures.value, c.requires.room, c.requires.high)

pub read_place-of_pin-requires-clause-place : goal.read_place-of_pin-requires-clause-place
read_place-of_pin-requires-clause-place c =
    let netlist = c.args.netlist.now in
    omega (arith, starts-at netlist c.args.starts.now c.args.net c.requires.starts c.requires.net, start_in netlist c.args.net c.requires.net, c.len.ensures.value, c.requires.room, c.requires.high, c.requires.low)

pub returns : goal.returns
unfolding delay_by
returns c =
    let netlist = c.args.netlist.now in
    let rows = c.args.rows.now in
    let s = starts-at netlist c.args.starts.now c.args.net c.requires.starts c.requires.net in
    let p : c.read_place-of_pin.result ≡ delay_in (is_of_pin netlist c.args.net c.args.pin) rows =
    (rw (s, c.len.ensures.value) at c.read_place-of_pin.ensures) ∙ sym (delay_in-pin netlist rows c.args.net c.args.pin c.requires.net c.requires.low c.requires.high) in
    let q : c.read_place-of_net.result ≡ delay_in (is_of_net netlist c.args.net) rows = c.read_place-of_net.ensures ∙ sym (delay_in-net netlist rows c.args.net c.requires.net) in
    rw (c.max.ensures, c.unwrap_or.ensures, c.or-2.ensures, c.or.ensures, p, q, c.of_kind-of_kind.ensures) refl
