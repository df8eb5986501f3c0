use Rattle.std.proofs.Common.{◌∙◌, ◌<◌, ap, arith, rules, sym, subst, length, ℕ, List}
use Rattle.std.specs.Prelude.{All}
use Rattle.cmb_netlist.proofs.Wired.{pins-below}
use Rattle.cmb_netlist.specs.Netlist.{pins_of}
use Rattle.cmb_count.proofs.MarkFacts.{used_more, used_none}
use Rattle.cmb_count.proofs.unused.mark_used.Goals as goal

pub loop-net-init : goal.loop-net-init
loop-net-init c = record {
  long = search rules;
  marked = λ net within.
      c.mark_all.ensures.marked net (omega (arith, within, c.requires.long))
      ∙ rw (c.requires.none net, c.outputs.ensures) (used_none c.args.netlist.now net);
}

pub loop-net-preserved : goal.loop-net-preserved
loop-net-preserved c = record {
  long = search rules;
  marked = λ net within.
      used_more c.args.netlist.now net c.loop-net.net _ _ _ (c.pins.ensures ∙ ap pins_of c.driver.ensures) (c.loop-net.invariant.marked net within)
      (c.mark_all-in-loop-net.ensures.marked net (omega (arith, within, c.loop-net.invariant.long)));
}

pub mark_all-requires : goal.mark_all-requires
mark_all-requires c =
    let P : List ℕ → Type 0 = λ nets. All (λ net. net < length c.args.marks.now) nets in
    subst P (sym c.outputs.ensures) (λ k d within. let low = c.requires.sound.outputs k d within in omega (arith, low, c.requires.long))

pub mark_all-requires-in-loop-net : goal.mark_all-requires-in-loop-net
mark_all-requires-in-loop-net c =
    let P : List ℕ → Type 0 = λ nets. All (λ net. net < length c.loop-net.marks) nets in
    subst P (sym (c.pins.ensures ∙ ap pins_of c.driver.ensures)) (rw c.loop-net.invariant.long (pins-below c.args.netlist.now c.requires.sound c.loop-net.net))
