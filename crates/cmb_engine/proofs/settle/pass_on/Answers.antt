use Rattle.std.proofs.Common.{◌≡◌, ◌+◌, ◌<◌, ℕ, List, ap, get_or, length, subst, ◌∙◌, arith}
use Rattle.std.proofs.lemmas.List.Elements.{All-rest}
use Rattle.cmb_words.specs.Bits.{places_set}
use Rattle.cmb_engine.specs.Inner.Bits.{has}
use Rattle.cmb_engine.specs.Inner.Cells.{AreMarked}
use Rattle.cmb_engine.proofs.BatchFacts.{left-small, passing-none, passing-skips, passing-on}
use Rattle.cmb_engine.proofs.settle.pass_on.Goals as goal

pub loop-place-init : goal.loop-place-init
loop-place-init c =
    let is : c.into_iter-place-iterator.result ≡ places_set c.args.news.places = cc in
    record {
      small = left-small c.into_iter-place-iterator.result c.args.news.places is;
      passing = passing-none c.args.fanout.now.order c.args.news.base c.args.news.places c.into_iter-place-iterator.result c.args.fanout.now.gates c.args.fanout.now.flops c.args.opened
          c.args.marks.now c.args.live.now is;
    }

pub loop-place-preserved-in-Some-slot : goal.loop-place-preserved-in-Some-slot
loop-place-preserved-in-Some-slot c = record {
  small = All-rest (λ (place : ℕ). place < 64) c.in-Some.place c.next.new.self c.loop-place.place-iterator c.in-Some.ensures.steps c.loop-place.invariant.small;
  passing = passing-on c.args.fanout.now.order c.args.news.base c.args.news.places c.in-Some.place c.next.new.self c.loop-place.place-iterator c.in-Some.ensures.steps
      c.args.fanout.now.gates c.args.fanout.now.flops c.args.opened c.args.marks.now c.loop-place.marks c.mark_all.new.marks c.mark_flops.new.marks
      c.args.live.now c.loop-place.live c.insert.new.self c.in-Some-slot.changed
      (c.in-Some-slot.ensures.1 ∙ ap (λ (slots : List ℕ). get_or slots (c.args.news.base + c.in-Some.place) 0) c.requires.slots) c.insert.ensures.len c.insert.ensures.has
      c.mark_all.ensures.len c.mark_all.ensures.kept (subst (λ (xs : List ℕ). AreMarked (has c.mark_all.new.marks) xs) c.of.ensures c.mark_all.ensures.marked)
      c.mark_flops.ensures.len c.mark_flops.ensures.kept c.mark_flops.ensures.marked c.loop-place.invariant.passing;
}

pub loop-place-preserved : goal.loop-place-preserved
loop-place-preserved c = record {
  small = All-rest (λ (place : ℕ). place < 64) c.in-Some.place c.next.new.self c.loop-place.place-iterator c.in-Some.ensures.steps c.loop-place.invariant.small;
  passing = passing-skips c.args.fanout.now.order c.args.news.base c.args.news.places c.in-Some.place c.next.new.self c.loop-place.place-iterator
      c.args.fanout.now.gates c.args.fanout.now.flops c.args.opened c.args.marks.now c.loop-place.marks c.args.live.now c.loop-place.live
      c.in-Some.ensures.steps (omega (arith, ap length c.requires.slots, c.in_default.ensures)) c.loop-place.invariant.passing;
}
