use Rattle.std.proofs.Common.{◌<◌, ◌≤◌, length, arith, rules, ◌∙◌}
use Rattle.std.proofs.lemmas.List.{get_or_read}
use Rattle.cmb_cone.proofs.FoundFacts.{asked_more, asked_all, mark_within}
use Rattle.cmb_cone.proofs.closed.follow.Goals as goal

pub add_asked-requires-clause-net : goal.add_asked-requires-clause-net
add_asked-requires-clause-net c =
    let long = c.loop-done.found.list.ok.0 in
    let within : c.loop-done.done < length c.loop-done.found.list.items = omega (arith, c.loop-done-test.true, c.len.ensures, long) in
    let marked = c.loop-done.invariant.found.marked c.loop-done.done c.index-net.result.now within in
    omega (arith, mark_within c.loop-done.found.marks.items _ marked, c.index-net.ensures, c.loop-done.invariant.marks)

pub add_asked-requires-clause-marks : goal.add_asked-requires-clause-marks
add_asked-requires-clause-marks c = c.loop-done.invariant.marks

pub loop-done-preserved : goal.loop-done-preserved
loop-done-preserved c =
    let within : c.loop-done.done < length c.loop-done.found.list.items = search rules in
    record {
      found = c.in_ok-add_asked.ensures.found;
      marks = c.in_ok-add_asked.ensures.marks ∙ c.loop-done.invariant.marks;
      asked = asked_more c.args.netlist.now c.args.found.now.list.items c.loop-done.found.list.items _ c.loop-done.done c.index-net.result.now within
          (get_or_read c.loop-done.found.list.items c.loop-done.done c.index-net.result.now within c.index-net.ensures 0) c.loop-done.invariant.asked c.in_ok-add_asked.ensures.gains;
    }

pub returns-clause-follows : goal.returns-clause-follows
returns-clause-follows c =
    let end : length c.loop-done.found.list.items ≤ c.loop-done.done = search rules in
    asked_all c.args.netlist.now c.args.found.now.list.items c.loop-done.found.list.items c.loop-done.done end c.loop-done.invariant.asked
