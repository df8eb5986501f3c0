use Rattle.std.proofs.Common.{◌*◌, ◌≡◌, ◌+◌, ◌-◌, ◌<◌, inl, inr, ℕ, List, [], ◌∷◌, length, get_or, subst, sym, ap, ◌∙◌, arith}
use Rattle.std.proofs.lemmas.Bool.{cases_lt}
use Rattle.std.proofs.lemmas.List.{get_or_default, take_all}
use Rattle.std.proofs.lemmas.List.Elements.{Contains-get_or}
use Rattle.std.specs.Prelude.{Contains}
use Rattle.cmb_wave.specs.declared.level.Level.{Level}
use Rattle.cmb_wave.specs.declared.level.Level.TheVariants.{Zero}
use Rattle.cmb_wheel.specs.declared.event.LevelEvent.{LevelEvent}
use Rattle.cmb_engine.specs.Inner.Planes.{Planes, planes_of}
use Rattle.cmb_engine.specs.Inner.Bits.{has}
use Rattle.cmb_engine.specs.Inner.Cells.{AreMarked, readers_at}
use Rattle.cmb_engine.specs.Inner.Orders.{rank_in}
use Rattle.cmb_engine.specs.Inner.Tells.{told_level}
use Rattle.cmb_engine.specs.Inner.Words.{levels_of}
use Rattle.cmb_engine.proofs.TellFacts.{told-more, told-written}
use Rattle.cmb_engine.proofs.WordFacts.{levels_of-read}
use Rattle.cmb_engine.proofs.WriteFacts.{writes-on}
use Rattle.cmb_engine.proofs.told.write_told.Goals as goal

abbrev none : LevelEvent
none = record { tick = 0; slot = 0; level = Zero }

-- what is required of each tell that is listed
listed : (P : LevelEvent → Type 0) (tells : List LevelEvent) (i : ℕ) → ((event : LevelEvent) → Contains tells event → P event) → i < length tells → P (get_or tells i none)
listed P tells i all below = all (get_or tells i none) (Contains-get_or tells i none below)

pub get-requires : goal.get-requires
get-requires c =
    let facts = listed _ _ _ c.requires.slots c.loop-event-test.true in
    omega (arith, facts.0, c.loop-event.invariant.writes.len)

pub overflow_add-event : goal.overflow_add-event
overflow_add-event c =
    let facts = listed _ _ _ c.requires.slots c.loop-event-test.true in
    omega (arith, facts.3, c.requires.to)

pub overflow_sub-event : goal.overflow_sub-event
overflow_sub-event c =
    let facts = listed _ _ _ c.requires.slots c.loop-event-test.true in
    omega (arith, facts.2)

pub with_from-word-requires : goal.with_from-word-requires
with_from-word-requires c =
    let facts = listed _ _ _ c.requires.slots c.loop-event-test.true in
    omega (arith, facts.2, facts.3)

pub gates_of-requires : goal.gates_of-requires
gates_of-requires c =
    let facts = listed _ _ _ c.requires.slots c.loop-event-test.true in
    c.requires.lists _ facts.0

pub put_word-requires : goal.put_word-requires
put_word-requires c =
    let facts = listed _ _ _ c.requires.slots c.loop-event-test.true in
    let place : ℕ = rank_in c.args.fanout.now.order (get_or c.args.tells.now c.loop-event.event-index none).slot in
    record {
      slot = omega (arith, facts.0, c.loop-event.invariant.writes.len);
      within = λ k d small.
          let below : get_or c.gates_of.result.now k d < 64 * length c.args.marks.now =
          subst (λ (readers : List ℕ). get_or readers k d < 64 * length c.args.marks.now) (sym c.gates_of.ensures)
          (c.requires.within place k d (subst (λ (readers : List ℕ). k < length readers) c.gates_of.ensures small)) in
          omega (arith, below, c.loop-event.invariant.writes.room);
      live = omega (arith, c.requires.live, c.loop-event.invariant.writes.len, c.loop-event.invariant.writes.live_room);
    }

pub loop-event-preserved : goal.loop-event-preserved
loop-event-preserved c =
    let event : LevelEvent = get_or c.args.tells.now c.loop-event.event-index none in
    let facts = listed _ _ _ c.requires.slots c.loop-event-test.true in
    let inside : event.slot < length c.loop-event.words = omega (arith, facts.0, c.loop-event.invariant.writes.len) in
    record {
      writes = writes-on c.args.words.now c.loop-event.words c.put_word.new.words c.args.live.now c.loop-event.live c.put_word.new.live c.args.marks.now c.loop-event.marks c.put_word.new.marks
          c.loop-event.invariant.writes c.put_word.ensures.writes;
      words = λ slot place small.
          ap (λ (words : List Planes). levels_of words slot place) c.put_word.ensures.words
          ∙ told-written c.loop-event.words event c.with_from-word.result c.args.to slot place inside facts.1 facts.2
          (λ i l. c.with_from-word.ensures.below i l ∙ sym (levels_of-read c.loop-event.words event.slot c.get.result i inside (c.get.ensures (planes_of c.get.result))))
          c.with_from-word.ensures.from small
          ∙ ap (λ (held : Level). told_level (event ∷ []) slot held (c.args.to + place - 64)) (c.loop-event.invariant.words slot place small)
          ∙ sym (told-more c.args.tells.now c.loop-event.event-index none slot (levels_of c.args.words.now slot place) (c.args.to + place - 64) c.loop-event-test.true);
      news = λ k d l.
          elim (cases_lt k c.loop-event.event-index) [
            | inl before ↦ λ j small. c.put_word.ensures.writes.marks _ (c.loop-event.invariant.news k d before j small)
            | inr now ↦
                let e : c.loop-event.event-index ≡ k = omega (arith, l, now) in
                let here : event ≡ get_or c.args.tells.now k d =
                get_or_default c.args.tells.now c.loop-event.event-index none d c.loop-event-test.true ∙ ap (λ (n : ℕ). get_or c.args.tells.now n d) e in
                subst (λ (t : LevelEvent). AreMarked (has c.put_word.new.marks) (readers_at c.args.fanout.now.order c.args.fanout.now.gates t.slot)) here
                (subst (λ (readers : List ℕ). AreMarked (has c.put_word.new.marks) readers) c.gates_of.ensures c.put_word.ensures.news)
          ];
    }

pub returns-clause-words : goal.returns-clause-words
returns-clause-words c = λ slot place inside small.
    c.loop-event.invariant.words slot place small
    ∙ ap (λ (tells : List LevelEvent). told_level tells slot (levels_of c.args.words.now slot place) (c.args.to + place - 64)) (take_all c.loop-event.event-index c.args.tells.now c.loop-event-test.false)

pub returns-clause-news : goal.returns-clause-news
returns-clause-news c = λ event among.
    subst (λ (t : LevelEvent). AreMarked (has c.loop-event.marks) (readers_at c.args.fanout.now.order c.args.fanout.now.gates t.slot)) among.2
    (c.loop-event.invariant.news among.0 event (omega (arith, among.1, c.loop-event-test.false)))
