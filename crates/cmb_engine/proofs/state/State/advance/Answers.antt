use Rattle.std.proofs.Common.{◌≡◌, ◌<◌, ℕ, ◌-◌, List, length, refl, sym, ap, subst, ◌∙◌, arith}
use Rattle.std.specs.Prelude.{All, Contains, false, true}
use Rattle.std.proofs.lemmas.Result.{on_ok_weaker}
use Rattle.cmb_wheel.specs.declared.event.LevelEvent.{LevelEvent}
use Rattle.cmb_design_model.specs.Exact.{nets_of}
use Rattle.cmb_words.specs.declared.changed.Changed.{Changed}
use Rattle.cmb_words.specs.Changes.{RisesWithin, is_among}
use Rattle.cmb_engine.specs.Inner.Bits.{has}
use Rattle.cmb_engine.specs.Inner.Cells.{IsSteadyFrom}
use Rattle.cmb_engine.specs.Inner.Circuits.{AreQuiet, Shows}
use Rattle.cmb_engine.specs.Inner.Lines.{AreFollowers, IsAhead, IsOfLine, NotesEach}
use Rattle.cmb_engine.specs.Inner.Traces.{trace_of}
use Rattle.cmb_engine.specs.Inner.Words.{levels_of}
use Rattle.cmb_engine.specs.declared.cell.Pin.{Pin}
use Rattle.cmb_engine.proofs.CollectFacts.{HasWord, collected-moves}
use Rattle.cmb_engine.proofs.EngineFacts.{gift-slots, lines-ahead, next-ahead, next-shows, told-slots, window-changes}
use Rattle.cmb_engine.proofs.state.State.advance.Goals as goal
use Rattle.cmb_engine.proofs.state.State.advance.Goals.{After-note_lines}

pub go_on-requires-clause-told : goal.go_on-requires-clause-told
go_on-requires-clause-told c = λ event h.
    let told = told-slots c.args.design.now c.args.circuit.now c.args.self.now c.requires.circuit c.requires.state c.take.new.self c.take.new.taken.items
    c.args.upto c.requires.later c.requires.short c.requires.within c.in_ok-take.ensures.takes c.in_ok-take.ensures.order event
    (subst (λ (xs : List LevelEvent). Contains xs event) c.deref.ensures.value h) in
    (omega (arith, told.0, c.requires.state.slots), told.1, told.2, told.3)

pub go_on-requires-clause-gives : goal.go_on-requires-clause-gives
go_on-requires-clause-gives c = gift-slots c.args.design.now c.args.circuit.now c.args.self.now c.requires.circuit c.requires.state

pub note_lines-requires-clause-ahead : goal.note_lines-requires-clause-ahead
note_lines-requires-clause-ahead c =
    subst (λ (lines : List Pin). All (IsAhead c.take.new.self c.args.upto (64 - (c.args.upto - c.args.self.now.clock))) lines) (sym c.deref-3.ensures.value)
    (lines-ahead c.args.design.now c.args.circuit.now c.args.self.now c.requires.circuit c.requires.state c.take.new.self c.take.new.taken.items c.args.upto
    c.requires.later c.requires.short c.requires.within c.in_ok-take.ensures.takes)

pub go_on-requires-clause-wiring : goal.go_on-requires-clause-wiring
go_on-requires-clause-wiring c = c.requires.circuit.wires

pub go_on-requires-clause-quiet : goal.go_on-requires-clause-quiet
go_on-requires-clause-quiet c =
    let state = c.args.self.now in
    subst (λ (n : ℕ). AreQuiet (levels_of state.words) (has state.live) n) (sym c.requires.state.slots) c.requires.state.quiet

pub go_on-requires-clause-nets : goal.go_on-requires-clause-nets
go_on-requires-clause-nets c = sym c.requires.state.slots

pub note_lines-requires-clause-followers : goal.note_lines-requires-clause-followers
note_lines-requires-clause-followers c =
    let circuit = c.args.circuit.now in
    subst (λ (lines : List Pin). AreFollowers lines (length circuit.followers) circuit.followers) (sym c.deref-3.ensures.value)
    (subst (λ (n : ℕ). AreFollowers circuit.lines.items n circuit.followers) (sym c.requires.circuit.follow.count) c.requires.circuit.follow)

pub note_lines-requires-clause-changed : goal.note_lines-requires-clause-changed
note_lines-requires-clause-changed c =
    let nets : c.len.result ≡ length c.args.circuit.now.followers = c.len.ensures.value ∙ ap (λ n. length n.names) c.netlist.ensures ∙ sym c.requires.circuit.follow.count in
    subst (λ (changed : List Changed). RisesWithin 0 (length c.args.circuit.now.followers) changed) (sym c.deref-2.ensures.value)
    (subst (λ (n : ℕ). RisesWithin 0 n c.collect.new.changed.items) nets c.in_ok-collect.ensures.rises)

pub collect-requires-clause-quiet : goal.collect-requires-clause-quiet
collect-requires-clause-quiet c =
    subst (λ (n : ℕ). AreQuiet (levels_of c.go_on.new.words) (has c.go_on.new.live) n) (sym c.go_on.ensures.len) c.go_on.ensures.quiet

pub note_lines-requires-clause-few : goal.note_lines-requires-clause-few
note_lines-requires-clause-few c =
    omega (arith, ap length c.deref-3.ensures.value, c.requires.circuit.follow.count, c.requires.circuit.plan.count, c.requires.circuit.few)

module _ (c : After-note_lines) where
  nets : c.len.result ≡ nets_of c.args.design.now
  nets = c.len.ensures.value ∙ ap (λ n. length n.names) c.netlist.ensures

  shows : Shows (levels_of c.go_on.new.words) (trace_of c.args.design.now c.args.circuit.now.wiring.roles.items c.args.circuit.now.lines.items) (length c.args.circuit.now.wiring.cells) c.args.upto
  shows =
      next-shows c.args.design.now c.args.circuit.now c.args.self.now c.requires.circuit c.requires.state c.take.new.self c.take.new.taken.items c.args.upto
      c.requires.later c.requires.short c.requires.within c.in_ok-take.ensures.takes c.args.self.now.words c.go_on.new.words c.deref.result.now c.args.given.now c.requires.given refl
      c.deref.ensures.value c.in_ok-take.ensures.order c.go_on.ensures.shows

  rises : RisesWithin 0 (nets_of c.args.design.now) c.collect.new.changed.items
  rises = subst (λ (n : ℕ). RisesWithin 0 n c.collect.new.changed.items) nets c.in_ok-collect.ensures.rises

  right : All (HasWord (levels_of c.go_on.new.words)) c.collect.new.changed.items
  right = c.in_ok-collect.ensures.words

  others : (net : ℕ) → net < nets_of c.args.design.now → has c.args.circuit.now.wanted net ≡ true → is_among net c.collect.new.changed.items ≡ false
      → IsSteadyFrom (levels_of c.go_on.new.words net) (64 - (c.args.upto - c.args.self.now.clock))
  others net small want none = c.in_ok-collect.ensures.others net (omega (arith, small, nets)) want none

  noted : NotesEach (IsOfLine c.deref-2.result.now c.deref-3.result.now (length c.args.circuit.now.followers) c.args.upto (64 - (c.args.upto - c.args.self.now.clock)))
      c.take.new.self c.note_lines.new.calendar
      → NotesEach (IsOfLine c.collect.new.changed.items c.args.circuit.now.lines.items (nets_of c.args.design.now) c.args.upto (64 - (c.args.upto - c.args.self.now.clock)))
      c.take.new.self c.note_lines.new.calendar
  noted notes =
      subst (λ (n : ℕ). NotesEach (IsOfLine c.collect.new.changed.items c.args.circuit.now.lines.items n c.args.upto (64 - (c.args.upto - c.args.self.now.clock)))
      c.take.new.self c.note_lines.new.calendar) c.requires.circuit.follow.count
      (subst (λ (lines : List Pin). NotesEach (IsOfLine c.collect.new.changed.items lines (length c.args.circuit.now.followers) c.args.upto (64 - (c.args.upto - c.args.self.now.clock)))
      c.take.new.self c.note_lines.new.calendar) c.deref-3.ensures.value
      (subst (λ (changed : List Changed). NotesEach (IsOfLine changed c.deref-3.result.now (length c.args.circuit.now.followers) c.args.upto (64 - (c.args.upto - c.args.self.now.clock)))
      c.take.new.self c.note_lines.new.calendar) c.deref-2.ensures.value notes))

pub returns-clause-state : goal.returns-clause-state
returns-clause-state c =
    on_ok_weaker c.note_lines.result (λ notes. record {
      slots = c.go_on.ensures.len ∙ c.requires.state.slots;
      live_room = omega (arith, c.go_on.ensures.live, c.requires.state.live_room);
      marks_room = omega (arith, c.go_on.ensures.room, c.requires.state.marks_room);
      shows = shows c;
      quiet = subst (λ (n : ℕ). AreQuiet (levels_of c.go_on.new.words) (has c.go_on.new.live) n) c.requires.state.slots c.go_on.ensures.quiet;
      ahead = next-ahead c.args.design.now c.args.circuit.now c.args.self.now c.requires.circuit c.requires.state c.take.new.self c.take.new.taken.items c.args.upto
          c.requires.later c.requires.short c.requires.within c.in_ok-take.ensures.takes c.go_on.new.words (shows c) c.collect.new.changed.items (rises c) (right c) (others c)
          c.note_lines.new.calendar (noted c notes) c.note_lines.ensures.ticks.horizon c.note_lines.ensures.ticks.clock;
      begun = omega (arith, c.requires.state.begun, c.requires.later);
      within = c.requires.within;
    }) c.note_lines.ensures.notes

pub returns-clause-tells : goal.returns-clause-tells
returns-clause-tells c =
    on_ok_weaker c.note_lines.result
    (λ notes. window-changes c.args.design.now c.args.circuit.now c.args.self.now c.requires.circuit c.requires.state c.take.new.self c.take.new.taken.items c.args.upto
    c.requires.later c.requires.short c.requires.within c.in_ok-take.ensures.takes c.go_on.new.words (shows c) c.collect.new.changed.items (rises c) (right c) (others c))
    c.note_lines.ensures.notes

pub returns-clause-changes : goal.returns-clause-changes
returns-clause-changes c =
    on_ok_weaker c.note_lines.result
    (λ notes. collected-moves c.collect.new.changed.items c.args.self.now.clock c.args.upto c.requires.state.begun c.requires.later
    (omega (arith, c.requires.short, c.requires.circuit.plan.fits)) c.in_ok-collect.ensures.moved)
    c.note_lines.ensures.notes
