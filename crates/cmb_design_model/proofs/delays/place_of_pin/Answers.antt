use Rattle.std.proofs.Common.{sym, arith}
use Rattle.cmb_design_model.proofs.RowFacts.{length-starts, pin_place-at, start_in, starts-at}
use Rattle.cmb_design_model.proofs.delays.place_of_pin.Goals as goal

pub bounds-starts-net : goal.bounds-starts-net
bounds-starts-net c = omega (arith, length-starts c.args.netlist.now c.args.starts.now c.requires.starts)

pub overflow_add-result-2 : goal.overflow_add-result-2
overflow_add-result-2 c =
    let netlist = c.args.netlist.now in
    let s = starts-at netlist c.args.starts.now c.args.net c.requires.starts c.requires.within in
    let t = start_in netlist c.args.net c.requires.within in
    omega (arith, s, t, c.len.ensures.value, c.requires.room)

pub overflow_add-result-3 : goal.overflow_add-result-3
overflow_add-result-3 c =
    let netlist = c.args.netlist.now in
    let s = starts-at netlist c.args.starts.now c.args.net c.requires.starts c.requires.within in
    let t = start_in netlist c.args.net c.requires.within in
    omega (arith, s, t, c.pin_count.ensures, c.len.ensures.value, c.requires.room)

pub returns : goal.returns
returns c =
    let netlist = c.args.netlist.now in
    let s = starts-at netlist c.args.starts.now c.args.net c.requires.starts c.requires.within in
    let p = pin_place-at netlist c.args.net c.args.pin (omega arith) (omega arith) in
    rw (s, c.len.ensures.value) (sym p)
