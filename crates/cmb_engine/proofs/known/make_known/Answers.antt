use Rattle.std.proofs.Common.{List, not, ◌==◌, ◌≡◌, ◌<◌, ℕ, length, get_or, set, ap, refl, sym, subst, ◌∙◌, arith}
use Rattle.std.proofs.lemmas.Bool.{eqb-true, not-false}
use Rattle.std.proofs.lemmas.List.{length-set}
use Rattle.std.proofs.lemmas.List.Elements.{All-rest}
use Rattle.cmb_words.specs.Bits.{level_in, places_set}
use Rattle.cmb_engine.specs.Inner.Cells.{cell_at}
use Rattle.cmb_engine.specs.Inner.Known.{known_levels}
use Rattle.cmb_engine.proofs.BatchFacts.{making-none, making-all, making-skips, making-writes, left-small}
use Rattle.cmb_engine.proofs.KnownFacts.{known-read, known-same, known-other}
use Rattle.cmb_engine.proofs.LineFacts.{next-of}
use Rattle.cmb_engine.proofs.known.make_known.Goals as goal

pub loop-place-init : goal.loop-place-init
loop-place-init c =
    let is : c.into_iter-place-iterator.result ≡ places_set c.args.batch.places = cc in
    record {
      small = left-small c.into_iter-place-iterator.result c.args.batch.places is;
      len = refl;
      last = c.requires.last;
      making = λ cells order slots nodes. making-none (cell_at cells) order c.args.to c.args.first c.args.batch.base c.args.batch.places c.into_iter-place-iterator.result 0
          (known_levels c.args.ones.now) is;
    }

pub overflow_add-rank : goal.overflow_add-rank
overflow_add-rank c =
    let small = next-of (λ (place : ℕ). place < 64) c.loop-place.place-iterator c.in-Some.place c.next.new.self c.in-Some.ensures.steps c.loop-place.invariant.small in
    omega (arith, small, c.args.batch.fits)

pub with_place-news-requires : goal.with_place-news-requires
with_place-news-requires c = next-of (λ (place : ℕ). place < 64) c.loop-place.place-iterator c.in-Some.place c.next.new.self c.in-Some.ensures.steps c.loop-place.invariant.small

pub loop-place-preserved-in-Some-slot : goal.loop-place-preserved-in-Some-slot
loop-place-preserved-in-Some-slot c =
    let slot : ℕ = c.in-Some-slot.slot in
    let made : ℕ = c.known_word-made.result in
    let own : ℕ = get_or c.loop-place.ones c.in-Some-slot.slot 0 in
    let now : List ℕ = c.loop-place.ones in
    let small = next-of (λ (place : ℕ). place < 64) c.loop-place.place-iterator c.in-Some.place c.next.new.self c.in-Some.ensures.steps c.loop-place.invariant.small in
    let inside : slot < length now = subst (λ (n : ℕ). n < length now) (sym c.in-Some-slot.ensures.1) (omega (arith, c.requires.within _ c.in-Some-slot.ensures.0, c.loop-place.invariant.len)) in
    let read : (q : ℕ) → level_in (get_or now slot 0) 0 q ≡ known_levels now slot q = λ q. sym (known-read now slot q inside) in
    record {
      small = All-rest (λ (place : ℕ). place < 64) c.in-Some.place c.next.new.self c.loop-place.place-iterator c.in-Some.ensures.steps c.loop-place.invariant.small;
      len = length-set now slot made ∙ c.loop-place.invariant.len;
      last = c.known_word-made.ensures.last;
      making = λ cells order slots nodes. making-writes cells c.args.nodes.now order slots nodes c.args.to c.args.first c.args.batch.base c.args.batch.places c.in-Some.place c.next.new.self
          c.loop-place.place-iterator c.in-Some.ensures.steps c.loop-place.news c.with_place-news.result (known_levels c.args.ones.now) (known_levels now)
          (known_levels (set now slot made)) slot c.in-Some-slot.ensures.0 c.in-Some-slot.ensures.1 small c.requires.window.0
          (level_in made 0) (λ q. known-same now slot made q inside) (λ m q other. known-other now slot m made q other)
          (λ q l. c.known_word-made.ensures.below q l ∙ read q) (λ told q. c.known_word-made.ensures.told told q ∙ read q) c.known_word-made.ensures.made
          (not (made == own)) (λ equal q from l. ap (λ (n : ℕ). level_in n 0 q) (eqb-true made own (not-false _ equal)) ∙ read q)
          c.with_place-news.ensures.here c.with_place-news.ensures.others (c.loop-place.invariant.making cells order slots nodes);
    }

pub loop-place-preserved : goal.loop-place-preserved
loop-place-preserved c = record {
  small = All-rest (λ (place : ℕ). place < 64) c.in-Some.place c.next.new.self c.loop-place.place-iterator c.in-Some.ensures.steps c.loop-place.invariant.small;
  len = c.loop-place.invariant.len;
  last = c.loop-place.invariant.last;
  making = λ cells order slots nodes. making-skips (cell_at cells) order c.args.to c.args.first c.args.batch.base c.args.batch.places c.in-Some.place c.next.new.self
      c.loop-place.place-iterator c.loop-place.news (known_levels c.args.ones.now) (known_levels c.loop-place.ones) c.in-Some.ensures.steps (omega (arith, ap length slots, c.in_default.ensures)) (c.loop-place.invariant.making cells order slots nodes);
}

pub returns-clause-makes : goal.returns-clause-makes
returns-clause-makes c = λ cells order slots nodes.
    making-all (cell_at cells) order c.args.to c.args.first c.args.batch.base c.args.batch.places c.loop-place.place-iterator c.loop-place.news
    (known_levels c.args.ones.now) (known_levels c.loop-place.ones) c.in-None.ensures.steps.0 (c.loop-place.invariant.making cells order slots nodes)
