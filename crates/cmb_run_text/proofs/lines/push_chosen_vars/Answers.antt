use Rattle.std.proofs.Common.{◌≤◌, ◌∙◌, [], sym, arith, length, map}
use Rattle.std.proofs.lemmas.List.{get_or-map, length-map}
use Rattle.cmb_netlist.specs.Netlist.{name_of}
use Rattle.cmb_run_text.proofs.LineFacts.{vars-done, vars-more}
use Rattle.cmb_run_text.proofs.lines.push_chosen_vars.Goals as goal

pub loop-place-preserved : goal.loop-place-preserved
loop-place-preserved c =
    let nets = c.args.nets.now in
    let long = length-map nets (name_of c.args.netlist.now) in
    vars-more (map (name_of c.args.netlist.now) nets) c.loop-place.place c.name.result.now c.loop-place.out.items c.push_var.new.out.items _ (omega (arith, long, c.loop-place-test.true))
    (c.name.ensures ∙ sym (get_or-map (name_of c.args.netlist.now) nets c.loop-place.place 0 [] c.loop-place-test.true)) c.in_ok-push_var.ensures c.loop-place.invariant

pub returns : goal.returns
returns c =
    let nets = c.args.nets.now in
    let long = length-map nets (name_of c.args.netlist.now) in
    let end : length nets ≤ c.loop-place.place = c.loop-place-test.false in
    vars-done (map (name_of c.args.netlist.now) nets) c.loop-place.place c.loop-place.out.items _ (omega (arith, long, end)) c.loop-place.invariant
