use Rattle.std.proofs.Common.{◌≡◌, ℕ, ◌+◌, ◌-◌, ◌<◌, ◌≤◌, List, [], ◌∷◌, ◌++◌, sym, ap, subst, ◌∙◌, arith}
use Rattle.std.proofs.lemmas.List.{map-id}
use Rattle.std.proofs.lemmas.List.Elements.{All-rest, All-same}
use Rattle.std.proofs.lemmas.Iterator.Consumers.{YieldsList-from_first, YieldsList-end}
use Rattle.cmb_wheel.specs.declared.event.LevelEvent.{LevelEvent}
use Rattle.cmb_words.specs.Bits.{places_set}
use Rattle.cmb_engine.specs.Inner.Lines.{NotesEach, IsOfChange, tell_of}
use Rattle.cmb_engine.proofs.LineFacts.{IsOfPlaces, change-of-place, place-of-change, place-parts, place-before, place-last, place-none, places-within, next-of}
use Rattle.cmb_engine.proofs.NoteFacts.{ticks-on, ticks-same, notes-none, notes-one, notes-as, notes-more}
use Rattle.cmb_engine.proofs.lines.note_changes.Goals as goal

pub overflow_add-to : goal.overflow_add-to
overflow_add-to c =
    let at = next-of (λ (place : ℕ). (c.args.first ≤ place) × (place < 64)) c.loop-place.place-iterator c.in-Some.place c.next.new.self c.in-Some.ensures.steps c.loop-place.invariant.within in
    omega arith

pub overflow_sub-to : goal.overflow_sub-to
overflow_sub-to c =
    let at = next-of (λ (place : ℕ). (c.args.first ≤ place) × (place < 64)) c.loop-place.place-iterator c.in-Some.place c.next.new.self c.in-Some.ensures.steps c.loop-place.invariant.within in
    omega arith

pub overflow_add-to-in-loop-place : goal.overflow_add-to-in-loop-place
overflow_add-to-in-loop-place c =
    let at = next-of (λ (place : ℕ). (c.args.first ≤ place) × (place < 64)) c.loop-place.place-iterator c.in-Some.place c.next.new.self c.in-Some.ensures.steps c.loop-place.invariant.within in
    omega arith

pub level-requires : goal.level-requires
level-requires c =
    (next-of (λ (place : ℕ). (c.args.first ≤ place) × (place < 64)) c.loop-place.place-iterator c.in-Some.place c.next.new.self c.in-Some.ensures.steps c.loop-place.invariant.within).1

pub note-requires : goal.note-requires
note-requires c =
    let at = next-of (λ (place : ℕ). (c.args.first ≤ place) × (place < 64)) c.loop-place.place-iterator c.in-Some.place c.next.new.self c.in-Some.ensures.steps c.loop-place.invariant.within in
    record { later = omega (arith, c.loop-place.invariant.ticks.clock, at, c.requires.ahead) }

pub loop-place-init : goal.loop-place-init
loop-place-init c = record {
  within = All-same (λ (place : ℕ). (c.args.first ≤ place) × (place < 64)) c.into_iter-place-iterator.result (places_set c.changes_from-changes.result) (cc)
      (places-within c.args.word c.changes_from-changes.result c.args.first c.changes_from-changes.ensures.below c.changes_from-changes.ensures.from);
  notes = notes-none (IsOfPlaces c.args.word c.args.slot c.args.delay c.args.to []) c.args.calendar.now (place-none c.args.word c.args.slot c.args.delay c.args.to);
  ticks = ticks-same c.args.calendar.now;
}

pub loop-place-preserved : goal.loop-place-preserved
loop-place-preserved c =
    let one : LevelEvent = record { tick = c.args.to + c.in-Some.place - 64 + c.args.delay; slot = c.args.slot; level = c.level.result } in
    let is : one ≡ tell_of c.args.word c.args.slot c.args.delay c.args.to c.in-Some.place =
    ap (λ level. record { tick = c.args.to + c.in-Some.place - 64 + c.args.delay; slot = c.args.slot; level = level }) c.level.ensures in
    record {
      within = All-rest (λ (place : ℕ). (c.args.first ≤ place) × (place < 64)) c.in-Some.place c.next.new.self c.loop-place.place-iterator c.in-Some.ensures.steps c.loop-place.invariant.within;
      notes = notes-more
          (IsOfPlaces c.args.word c.args.slot c.args.delay c.args.to c.loop-place.yielded) (λ event. event ≡ one)
          (IsOfPlaces c.args.word c.args.slot c.args.delay c.args.to (c.loop-place.yielded ++ c.in-Some.place ∷ []))
          c.args.calendar.now c.loop-place.calendar c.note.new.self c.loop-place.invariant.ticks.horizon
          (place-parts c.args.word c.args.slot c.args.delay c.args.to c.loop-place.yielded c.in-Some.place one is)
          (place-before c.args.word c.args.slot c.args.delay c.args.to c.loop-place.yielded c.in-Some.place one is)
          (place-last c.args.word c.args.slot c.args.delay c.args.to c.loop-place.yielded c.in-Some.place one is)
          c.loop-place.invariant.notes
          (notes-one c.loop-place.calendar c.note.new.self one c.in_ok-note.ensures.notes);
      ticks = ticks-on c.args.calendar.now c.loop-place.calendar c.note.new.self c.loop-place.invariant.ticks c.note.ensures.ticks;
    }

pub returns-clause-notes : goal.returns-clause-notes
returns-clause-notes c =
    let whole = YieldsList-end (YieldsList-from_first (λ (x : ℕ). x) (λ (rest : List ℕ). rest) (places_set c.changes_from-changes.result) (cc)) c.loop-place.yielded _ c.loop-place.yielded_by _ _ c.in-None.is c.next.ensures.steps in
    let all : c.loop-place.yielded ≡ places_set c.changes_from-changes.result = sym (map-id c.loop-place.yielded) ∙ whole.0 in
    notes-as (IsOfPlaces c.args.word c.args.slot c.args.delay c.args.to (places_set c.changes_from-changes.result)) (IsOfChange c.args.word c.args.slot c.args.delay c.args.to c.args.first)
    c.args.calendar.now c.loop-place.calendar
    (change-of-place c.args.word c.changes_from-changes.result c.args.first c.changes_from-changes.ensures.below c.changes_from-changes.ensures.from c.args.slot c.args.delay c.args.to)
    (place-of-change c.args.word c.changes_from-changes.result c.args.first c.changes_from-changes.ensures.below c.changes_from-changes.ensures.from c.args.slot c.args.delay c.args.to)
    (subst (λ (places : List ℕ). NotesEach (IsOfPlaces c.args.word c.args.slot c.args.delay c.args.to places) c.args.calendar.now c.loop-place.calendar) all c.loop-place.invariant.notes)
