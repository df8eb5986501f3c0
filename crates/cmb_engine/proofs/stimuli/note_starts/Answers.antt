use Rattle.std.proofs.Common.{◌≡◌, ◌≢◌, ℕ, ◌+◌, ◌<◌, ◌≤◌, ◌⊎◌, inl, inr, false, List, Some, length, get_or, refl, sym, ap, subst, ◌∙◌, arith}
use Rattle.std.specs.Prelude.{not, slice_get}
use Rattle.std.proofs.lemmas.Bool.{cases_lt, false≢true}
use Rattle.std.proofs.lemmas.Option.{get_or_from_slice_get, slice_get-get_or, slice_get_within}
use denote.Enum.Bare.{sameb}
use Rattle.cmb_wave.specs.contracts.level.Level.{the_type}
use Rattle.cmb_wave.specs.declared.level.Level.{Level}
use Rattle.cmb_wave.specs.declared.level.Level.TheVariants.{Zero, One, X}
use Rattle.cmb_wheel.specs.Calendars.{Calendar, Notes, SameTicks}
use Rattle.cmb_wheel.specs.declared.event.LevelEvent.{LevelEvent}
use Rattle.cmb_engine.specs.Inner.Planes.{planes_of}
use Rattle.cmb_engine.specs.Inner.Lines.{NotesEach}
use Rattle.cmb_engine.specs.Inner.Starts.{IsOfStart}
use Rattle.cmb_engine.specs.Inner.Words.{levels_of}
use Rattle.cmb_engine.specs.declared.cell.Pin.{Pin}
use Rattle.cmb_engine.proofs.NoteFacts.{ticks-on, notes-as, notes-more, notes-one}
use Rattle.cmb_engine.proofs.WordFacts.{levels_of-read}
use Rattle.cmb_engine.proofs.stimuli.note_starts.Goals as goal
use Rattle.cmb_engine.proofs.stimuli.note_starts.Goals.{then-ne+in_ok-note, else-ne}

x-where : (level : Level) → not (sameb the_type level X) ≡ false → level ≡ X
x-where Zero e = cc
x-where One e = cc
x-where X e = refl

-- a tell is of the start of a line below one
abbrev IsBelow : (ℕ → ℕ → Level) → List Pin → ℕ → ℕ → LevelEvent → Type 0
IsBelow words lines nets number event = (start : IsOfStart words lines nets event) × (start.number < number)

abbrev start_to : Pin → ℕ → ℕ → Level → LevelEvent
start_to line nets number level = record { tick = line.delay; slot = nets + number; level = level }

abbrev start_of : (ℕ → ℕ → Level) → Pin → ℕ → ℕ → LevelEvent
start_of words line nets number = start_to line nets number (words line.net 63)

-- one more line
module _ (words : ℕ → ℕ → Level) (lines : List Pin) (nets number : ℕ) (d : Pin) (inside : number < length lines) (old between new : Calendar)
    (same : between.horizon ≡ old.horizon) (so_far : NotesEach (IsBelow words lines nets number) old between) where
  here : slice_get lines number ≡ Some (get_or lines number d)
  here = slice_get-get_or lines number d inside

  -- the line of a start that isn't one below
  line-is : (event : LevelEvent) (h : IsBelow words lines nets (number + 1) event) → number ≤ h.0.number → (h.0.number ≡ number) × (h.0.line ≡ get_or lines number d)
  line-is event h l =
      let e : h.0.number ≡ number = omega (arith, l, h.1) in
      (e, sym (get_or_from_slice_get lines number h.0.line d (ap (slice_get lines) (sym e) ∙ h.0.has_number)))

  starts-noted : words (get_or lines number d).net 63 ≢ X → Notes between new (start_of words (get_or lines number d) nets number)
      → NotesEach (IsBelow words lines nets (number + 1)) old new
  starts-noted known noted =
      notes-more (IsBelow words lines nets number) (λ event. event ≡ start_of words (get_or lines number d) nets number) (IsBelow words lines nets (number + 1)) old between new same
      (λ event h. parts event h (cases_lt h.0.number number)) (λ event h. (h.0, omega (arith, h.1))) last so_far
      (notes-one between new (start_of words (get_or lines number d) nets number) noted)
    where
      parts : (event : LevelEvent) (h : IsBelow words lines nets (number + 1) event) → (h.0.number < number) ⊎ (number ≤ h.0.number)
          → IsBelow words lines nets number event ⊎ (event ≡ start_of words (get_or lines number d) nets number)
      parts event h (inl l) = inl (h.0, l)
      parts event h (inr l) =
          let e = line-is event h l in
          inr (h.0.is ∙ ap (λ (n : ℕ). start_of words h.0.line nets n) e.0 ∙ ap (λ (line : Pin). start_of words line nets number) e.1)

      last : (event : LevelEvent) → event ≡ start_of words (get_or lines number d) nets number → IsBelow words lines nets (number + 1) event
      last event is = (record { number = number; line = get_or lines number d; has_number = here; known = known; is = is }, omega arith)

  starts-passed : words (get_or lines number d).net 63 ≡ X → NotesEach (IsBelow words lines nets (number + 1)) old between
  starts-passed unknown =
      notes-as (IsBelow words lines nets number) (IsBelow words lines nets (number + 1)) old between
      (λ event h. (h.0, omega (arith, h.1))) (λ event h. kept event h (cases_lt h.0.number number)) so_far
    where
      kept : (event : LevelEvent) (h : IsBelow words lines nets (number + 1) event) → (h.0.number < number) ⊎ (number ≤ h.0.number) → IsBelow words lines nets number event
      kept event h (inl l) = (h.0, l)
      kept event h (inr l) =
          let e = line-is event h l in
          absurd (h.0.known (ap (λ (line : Pin). words line.net 63) e.1 ∙ unknown))

none : Pin
none = record { net = 0; delay = 0 }

pub loop-number-preserved : goal.loop-number-preserved
unfolding none
loop-number-preserved c =
    let words : ℕ → ℕ → Level = levels_of c.args.words.now in
    let lines : List Pin = c.args.lines.now in
    let old : Calendar = c.args.calendar.now in
    let line : Pin = get_or lines c.loop-number.number none in
    let level : words line.net 63 ≡ c.level-level.result =
    levels_of-read c.args.words.now line.net c.get.result 63 (c.requires.lines c.loop-number.number none c.loop-number-test.true) (c.get.ensures (planes_of c.get.result)) ∙ sym c.level-level.ensures in
    elim c.if-ne.branch [
      | then-ne+in_ok-note w ↦
          let known : words line.net 63 ≢ X =
          λ unknown. false≢true (sym (c.ne.ensures ∙ ap (λ (l : Level). not (sameb the_type l X)) (sym level ∙ unknown)) ∙ w.if-ne.true) in
          record {
            notes = subst (λ (calendar : Calendar). NotesEach (IsBelow words lines c.args.nets (c.loop-number.number + 1)) old calendar) (sym w.calendar-is)
                (starts-noted words lines c.args.nets c.loop-number.number none c.loop-number-test.true old c.loop-number.calendar w.note.new.self c.loop-number.invariant.ticks.horizon
                c.loop-number.invariant.notes known
                (subst (λ (l : Level). Notes c.loop-number.calendar w.note.new.self (start_to line c.args.nets c.loop-number.number l)) (sym level) w.in_ok-note.ensures.notes));
            ticks = subst (λ (calendar : Calendar). SameTicks old calendar) (sym w.calendar-is) (ticks-on old c.loop-number.calendar w.note.new.self c.loop-number.invariant.ticks w.note.ensures.ticks);
          }
      | else-ne w ↦
          let unknown : words line.net 63 ≡ X = level ∙ x-where c.level-level.result (sym c.ne.ensures ∙ w.if-ne.false) in
          record {
            notes = subst (λ (calendar : Calendar). NotesEach (IsBelow words lines c.args.nets (c.loop-number.number + 1)) old calendar) (sym w.calendar-is)
                (starts-passed words lines c.args.nets c.loop-number.number none c.loop-number-test.true old c.loop-number.calendar c.loop-number.calendar c.loop-number.invariant.ticks.horizon
                c.loop-number.invariant.notes unknown);
            ticks = subst (λ (calendar : Calendar). SameTicks old calendar) (sym w.calendar-is) c.loop-number.invariant.ticks;
          }
    ]

pub returns-clause-notes : goal.returns-clause-notes
returns-clause-notes c =
    let words : ℕ → ℕ → Level = levels_of c.args.words.now in
    let lines : List Pin = c.args.lines.now in
    notes-as (IsBelow words lines c.args.nets c.loop-number.number) (IsOfStart words lines c.args.nets) c.args.calendar.now c.loop-number.calendar
    (λ event h. h.0) (λ event h. (h, omega (arith, slice_get_within lines h.number h.line h.has_number, c.loop-number-test.false))) c.loop-number.invariant.notes
