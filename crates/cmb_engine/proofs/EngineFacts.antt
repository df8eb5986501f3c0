-- What an engine's state tells of its design, and how it goes on.
use Rattle.std.proofs.Common.{◌≡◌, ℕ, ◌+◌, ◌-◌, ◌<◌, ◌≤◌, false, true, List, length, sym, ap, subst, ◌∙◌, arith}
use Rattle.std.specs.Prelude.{All, Contains}
use Rattle.cmb_wheel.specs.Calendars.{Calendar, AreInOrder, Takes}
use Rattle.cmb_wheel.specs.declared.event.LevelEvent.{LevelEvent}
use Rattle.cmb_wave.specs.declared.level.Level.{Level}
use Rattle.cmb_design_model.specs.Design.{Design}
use Rattle.cmb_design_model.specs.Exact.{nets_of}
use Rattle.cmb_design_model.specs.Value.{value}
use Rattle.cmb_words.specs.declared.changed.Changed.{Changed}
use Rattle.cmb_engine.specs.Inner.Planes.{Planes}
use Rattle.cmb_words.specs.Changes.{RisesWithin, is_among}
use Rattle.cmb_engine.specs.Inner.Ahead.{TellsAhead}
use Rattle.cmb_engine.specs.Inner.Bits.{has}
use Rattle.cmb_engine.specs.Inner.Cells.{cell_at, is_made, IsSteadyFrom}
use Rattle.cmb_engine.specs.Inner.Circuits.{MeetsCells, Shows}
use Rattle.cmb_engine.specs.Inner.Collects.{IsWanted}
use Rattle.cmb_engine.specs.Inner.Gifts.{AreGiven}
use Rattle.cmb_engine.specs.Inner.Lines.{IsAhead, IsOfLine, NotesEach}
use Rattle.cmb_engine.specs.Inner.Roles.{AreToldNets, gives, level_in}
use Rattle.cmb_engine.specs.Inner.States.{IsCircuit, IsState}
use Rattle.cmb_engine.specs.Inner.Tells.{AreOfWindow}
use Rattle.cmb_engine.specs.Inner.Traces.{trace_of}
use Rattle.cmb_engine.specs.Inner.Words.{levels_of}
use Rattle.cmb_engine.specs.Shares.{TellsAll}
use Rattle.cmb_engine.specs.declared.circuit.Circuit.{Circuit}
use Rattle.cmb_engine.specs.declared.state.State.{State}
use Rattle.cmb_engine.proofs.CollectFacts.{HasWord, collected-tells}
use Rattle.cmb_engine.proofs.GivenFacts.{given-traced}
use Rattle.cmb_engine.proofs.RoleFacts.{given-inside, given-other}
use Rattle.cmb_engine.proofs.SlotFacts.{shows-nets}
use Rattle.cmb_engine.proofs.ToldFacts.{taken-tells, taken-ahead, noted-tells}

module _ (design : Design) (circuit : Circuit) (state : State) (is_circuit : IsCircuit design circuit) (is_state : IsState design circuit state) where
  -- a given net is a slot whose word no cell makes
  pub gift-slots : AreToldNets circuit.wiring.cells circuit.wiring.roles.items
  gift-slots slot gift =
      let inside : slot < nets_of design = omega (arith, given-inside circuit.wiring.roles.items slot gift, is_circuit.roles.few) in
      (omega (arith, inside, is_circuit.plan.count), is_circuit.plan.others slot inside (given-other circuit.wiring.roles.items slot gift))

  -- a window up to a tick, of which the tells were taken out
  module _ (between : Calendar) (taken : List LevelEvent) (to : ℕ) (later : state.clock < to) (short : to ≤ state.clock + circuit.width) (within : to ≤ design.horizon)
      (takes : Takes to state.calendar between taken) where
    place : to + (64 - (to - state.clock)) ≡ state.clock + 64
    place = omega (arith, later, short, is_circuit.plan.fits)

    pub window-tells : AreInOrder taken → AreOfWindow (trace_of design circuit.wiring.roles.items circuit.lines.items) (cell_at circuit.wiring.cells) (gives circuit.wiring.roles.items) (length circuit.wiring.cells) state.clock to taken
    window-tells =
        taken-tells design circuit.wiring.roles.items circuit.lines.items circuit.wiring.most circuit.width circuit.wiring.cells is_circuit.plan state.calendar between taken state.clock to
        (64 - (to - state.clock)) is_state.ahead is_state.begun later short within place takes

    pub told-slots : AreInOrder taken → (event : LevelEvent) → Contains taken event
        → (event.slot < length circuit.wiring.cells) × (is_made (cell_at circuit.wiring.cells event.slot) ≡ false) × (to ≤ event.tick + (to - state.clock)) × (event.tick < to)
    told-slots order event h =
        let right = (window-tells order).right event h in
        (right.0.slot, right.0.told, omega (arith, right.1, later), right.2)

    back : to - (to - state.clock) ≡ state.clock
    back = omega (arith, later)

    -- words that went on by the window show what the slots show up to its end
    pub next-shows : (old new : List Planes) (tells : List LevelEvent) (given : List Changed) → AreGiven (value design) circuit.wiring.roles.items state.clock to given → old ≡ state.words → tells ≡ taken → AreInOrder taken
        → ((trace : ℕ → ℕ → Level) → MeetsCells trace (cell_at circuit.wiring.cells) → Shows (levels_of old) trace (length old) (to - (to - state.clock))
        → AreOfWindow trace (cell_at circuit.wiring.cells) (gives circuit.wiring.roles.items) (length old) (to - (to - state.clock)) to tells
        → AreGiven trace circuit.wiring.roles.items (to - (to - state.clock)) to given → Shows (levels_of new) trace (length old) to)
        → Shows (levels_of new) (trace_of design circuit.wiring.roles.items circuit.lines.items) (length circuit.wiring.cells) to
    next-shows old new tells given gifts same those order shows =
        let trace : ℕ → ℕ → Level = trace_of design circuit.wiring.roles.items circuit.lines.items in
        let count : length old ≡ length circuit.wiring.cells = ap length same ∙ is_state.slots in
        let known : Shows (levels_of state.words) trace (length state.words) (to - (to - state.clock)) =
        subst (λ (n : ℕ). Shows (levels_of state.words) trace n (to - (to - state.clock))) (sym is_state.slots)
        (subst (λ (t : ℕ). Shows (levels_of state.words) trace (length circuit.wiring.cells) t) (sym back) is_state.shows) in
        let before : Shows (levels_of old) trace (length old) (to - (to - state.clock)) =
        subst (λ (ws : List Planes). Shows (levels_of ws) trace (length ws) (to - (to - state.clock))) (sym same) known in
        let told : AreOfWindow trace (cell_at circuit.wiring.cells) (gives circuit.wiring.roles.items) (length circuit.wiring.cells) (to - (to - state.clock)) to tells =
        subst (λ (t : ℕ). AreOfWindow trace (cell_at circuit.wiring.cells) (gives circuit.wiring.roles.items) (length circuit.wiring.cells) t to tells) (sym back)
        (subst (λ (xs : List LevelEvent). AreOfWindow trace (cell_at circuit.wiring.cells) (gives circuit.wiring.roles.items) (length circuit.wiring.cells) state.clock to xs) (sym those) (window-tells order)) in
        subst (λ (n : ℕ). Shows (levels_of new) trace n to) count
        (shows trace is_circuit.plan.meets before
        (subst (λ (n : ℕ). AreOfWindow trace (cell_at circuit.wiring.cells) (gives circuit.wiring.roles.items) n (to - (to - state.clock)) to tells) (sym count) told)
        (subst (λ (t : ℕ). AreGiven trace circuit.wiring.roles.items t to given) (sym back)
        (given-traced design circuit.wiring.roles.items circuit.lines.items state.clock to given is_circuit.roles gifts)))

    -- and of which the words show what the slots show
    module _ (words : List Planes) (shows : Shows (levels_of words) (trace_of design circuit.wiring.roles.items circuit.lines.items) (length circuit.wiring.cells) to) (changed : List Changed)
        (rises : RisesWithin 0 (nets_of design) changed) (right : All (HasWord (levels_of words)) changed)
        (others : (net : ℕ) → net < nets_of design → has circuit.wanted net ≡ true → is_among net changed ≡ false → IsSteadyFrom (levels_of words net) (64 - (to - state.clock))) where
      pub window-changes : TellsAll (IsWanted circuit.wanted (nets_of design)) (level_in design circuit.wiring.roles.items) state.clock to changed
      window-changes =
          let begins : to + (64 - (to - state.clock)) - 64 ≡ state.clock = omega (arith, place) in
          subst (λ (from : ℕ). TellsAll (IsWanted circuit.wanted (nets_of design)) (level_in design circuit.wiring.roles.items) from to changed) begins
          (collected-tells (levels_of words) (level_in design circuit.wiring.roles.items) (nets_of design) (nets_of design) to (64 - (to - state.clock)) changed
          (shows-nets (levels_of words) design circuit.wiring.roles.items circuit.lines.items (length circuit.wiring.cells) to (omega (arith, is_circuit.plan.count)) shows)
          (omega arith) (omega (arith, short, is_circuit.plan.fits)) (omega (arith, place, is_state.begun)) circuit.wanted (omega arith) rises right others)

      pub next-ahead : (new : Calendar) → NotesEach (IsOfLine changed circuit.lines.items (nets_of design) to (64 - (to - state.clock))) between new
          → new.horizon ≡ between.horizon → new.clock ≡ between.clock → TellsAhead design circuit.wiring.roles.items circuit.lines.items circuit.wiring.cells to new
      next-ahead new noted same_horizon same_clock =
          noted-tells design circuit.wiring.roles.items circuit.lines.items circuit.wiring.most circuit.width circuit.wiring.cells is_circuit.plan state.calendar between taken state.clock to
          (64 - (to - state.clock)) is_state.ahead is_state.begun later short within place takes new changed noted same_horizon same_clock circuit.wanted is_circuit.wanted window-changes

    pub lines-ahead : All (IsAhead between to (64 - (to - state.clock))) circuit.lines.items
    lines-ahead =
        taken-ahead design circuit.wiring.roles.items circuit.lines.items circuit.wiring.most circuit.width circuit.wiring.cells is_circuit.plan state.calendar between taken state.clock to
        (64 - (to - state.clock)) is_state.ahead is_state.begun later short within place takes
