-- What is told of inputs when an engine begins: the changes of their stimuli.
use Rattle.std.proofs.Common.{◌≡◌, ◌≢◌, ℕ, zero, suc, ◌+◌, ◌-◌, ◌<◌, ◌≤◌, ◌⊎◌, inl, inr, true, List, [], ◌∷◌, ◌++◌, length, get_or, take, refl, sym, ap, ap₂, subst, ◌∙◌, arith}
use Rattle.std.specs.Prelude.{Contains}
use Rattle.std.proofs.lemmas.Bool.{cases_lt}
use Rattle.std.proofs.lemmas.List.Elements.{Contains-append_left, Contains-append_right, Contains-append_cases, Contains-push, Contains-push_cases}
use Rattle.cmb_wave.specs.declared.level.Level.{Level}
use Rattle.cmb_wave.specs.declared.level.Change.{Change}
use Rattle.cmb_wave.specs.Waveform.{level_before, change_at, changes_between}
use Rattle.cmb_wave.proofs.Waveforms.{change_at-cases, changes_between-same, changes_between-suc}
use Rattle.cmb_netlist.specs.Netlist.{driver_of}
use Rattle.cmb_netlist.specs.declared.netlist.Driver.TheVariants.{Input}
use Rattle.cmb_wheel.specs.Calendars.{Calendar, Notes}
use Rattle.cmb_wheel.specs.declared.event.LevelEvent.{LevelEvent}
use Rattle.cmb_design_model.specs.Design.{Design}
use Rattle.cmb_design_model.specs.Exact.{nets_of}
use Rattle.cmb_design_model.specs.Timing.{stimulus}
use Rattle.cmb_engine.specs.Inner.Lines.{NotesEach}
use Rattle.cmb_engine.specs.Inner.Roles.{drives}
use Rattle.cmb_engine.specs.Inner.Starts.{IsOfInput, IsOfStimulus}
use Rattle.cmb_engine.specs.declared.role.Role.{Role}
use Rattle.cmb_engine.proofs.NoteFacts.{notes-one, notes-as, notes-more, taken-before, taken-last, taken-cases}

-- a change is told of a slot
abbrev pub tell_to : ℕ → Change → LevelEvent
tell_to slot change = record { tick = change.tick; slot = slot; level = change.level }

-- a tell is of one of some changes of a slot, after tick 0
pub record IsOfChanges (changes : List Change) (slot : ℕ) (event : LevelEvent) : Type 0 where
  pub change : Change
  pub among : Contains changes change
  pub later : 1 ≤ change.tick
  pub is : event ≡ tell_to slot change

no-changes : (changes : List Change) (x : Change) → changes ≡ [] → Contains changes x → ⊥
no-changes changes x none h = omega (arith, ap length none, h.1)

the-one : (one x : Change) → Contains (one ∷ []) x → one ≡ x
the-one one x h = go (Contains-push_cases [] one x h)
  where
    go : Contains [] x ⊎ (one ≡ x) → one ≡ x
    go (inl none) = absurd (no-changes [] x refl none)
    go (inr e) = e

pub before-later : (level : ℕ → Level) (tick : ℕ) → 1 ≤ tick → level_before level tick ≡ level (tick - 1)
before-later level zero later = absurd (omega arith)
before-later level (suc tick) later = ap level (omega arith)

-- ---- the changes of a waveform

-- it changes to a level at a tick below another one
abbrev IsChange : (ℕ → Level) → ℕ → Change → Type 0
IsChange level to change = (change.tick < to) × (change.level ≡ level change.tick) × (level change.tick ≢ level_before level change.tick)

abbrev change_to : (ℕ → Level) → ℕ → Change
change_to level tick = record { tick = tick; level = level tick }

abbrev IsLast : (ℕ → Level) → ℕ → Type 0
IsLast level tick =
    ((change_at level tick ≡ []) × (level_before level tick ≡ level tick)) ⊎ ((change_at level tick ≡ change_to level tick ∷ []) × (level tick ≢ level_before level tick))

last-is : (level : ℕ → Level) (to : ℕ) (change : Change) → Contains (change_at level to) change → IsLast level to → IsChange level (suc to) change
last-is level to change among (inl none) = absurd (no-changes (change_at level to) change none.0 among)
last-is level to change among (inr one) =
    let is : change_to level to ≡ change = the-one (change_to level to) change (subst (λ (cs : List Change). Contains cs change) one.0 among) in
    subst (λ (c : Change). IsChange level (suc to) c) is (omega arith, refl, one.1)

last-among : (level : ℕ → Level) (tick : ℕ) → level tick ≢ level_before level tick → IsLast level tick → Contains (change_at level tick) (change_to level tick)
last-among level tick differs (inl same) = absurd (differs (sym same.1))
last-among level tick differs (inr one) = subst (λ (cs : List Change). Contains cs (change_to level tick)) (sym one.0) (Contains-push [] (change_to level tick))

-- what is among the changes is at one of the ticks, to the level there, which is another one than before
pub change-among : (level : ℕ → Level) (to : ℕ) (change : Change) → Contains (changes_between level 0 to) change → IsChange level to change
change-among level zero change h = absurd (no-changes (changes_between level 0 0) change (changes_between-same level 0) h)
change-among level (suc to) change h =
    go (λ early. change-among level to change early)
    (Contains-append_cases (changes_between level 0 to) (change_at level to) change (subst (λ (cs : List Change). Contains cs change) (changes_between-suc level 0 to (omega arith)) h))
  where
    go : (Contains (changes_between level 0 to) change → IsChange level to change) → Contains (changes_between level 0 to) change ⊎ Contains (change_at level to) change
        → IsChange level (suc to) change
    go so_far (inl early) = let rest = so_far early in (omega (arith, rest.0), rest.1, rest.2)
    go so_far (inr late) = last-is level to change late (change_at-cases level to)

-- and each such one is among them
pub among-changes : (level : ℕ → Level) (to tick : ℕ) → tick < to → level tick ≢ level_before level tick → Contains (changes_between level 0 to) (change_to level tick)
among-changes level zero tick within differs = absurd (omega arith)
among-changes level (suc to) tick within differs =
    subst (λ (cs : List Change). Contains cs (change_to level tick)) (sym (changes_between-suc level 0 to (omega arith)))
    (go (λ early. among-changes level to tick early differs) (cases_lt tick to))
  where
    go : (tick < to → Contains (changes_between level 0 to) (change_to level tick)) → (tick < to) ⊎ (to ≤ tick)
        → Contains (changes_between level 0 to ++ change_at level to) (change_to level tick)
    go so_far (inl l) = Contains-append_left (changes_between level 0 to) (change_at level to) (change_to level tick) (so_far l)
    go so_far (inr l) =
        let e : tick ≡ to = omega (arith, l, within) in
        Contains-append_right (changes_between level 0 to) (change_at level to) (change_to level tick)
        (subst (λ (t : ℕ). Contains (change_at level t) (change_to level tick)) e (last-among level tick differs (change_at-cases level tick)))

-- ---- one more change

module _ (changes : List Change) (i : ℕ) (d : Change) (slot : ℕ) (inside : i < length changes) (old between new : Calendar) (same : between.horizon ≡ old.horizon)
    (so_far : NotesEach (IsOfChanges (take i changes) slot) old between) where
  before : (event : LevelEvent) → IsOfChanges (take i changes) slot event → IsOfChanges (take (i + 1) changes) slot event
  before event h = record { change = h.change; among = taken-before changes i d inside h.change h.among; later = h.later; is = h.is }

  pub changes-noted : 1 ≤ (get_or changes i d).tick → Notes between new (tell_to slot (get_or changes i d))
      → NotesEach (IsOfChanges (take (i + 1) changes) slot) old new
  changes-noted late noted =
      notes-more (IsOfChanges (take i changes) slot) (λ event. event ≡ tell_to slot (get_or changes i d)) (IsOfChanges (take (i + 1) changes) slot) old between new same
      (λ event h. parts event h (taken-cases changes i d inside h.change h.among)) before last so_far (notes-one between new (tell_to slot (get_or changes i d)) noted)
    where
      parts : (event : LevelEvent) (h : IsOfChanges (take (i + 1) changes) slot event) → Contains (take i changes) h.change ⊎ (get_or changes i d ≡ h.change)
          → IsOfChanges (take i changes) slot event ⊎ (event ≡ tell_to slot (get_or changes i d))
      parts event h (inl early) = inl (record { change = h.change; among = early; later = h.later; is = h.is })
      parts event h (inr here) = inr (h.is ∙ ap (tell_to slot) (sym here))

      last : (event : LevelEvent) → event ≡ tell_to slot (get_or changes i d) → IsOfChanges (take (i + 1) changes) slot event
      last event is = record { change = get_or changes i d; among = taken-last changes i d inside; later = late; is = is }

  pub changes-passed : (get_or changes i d).tick < 1 → NotesEach (IsOfChanges (take (i + 1) changes) slot) old between
  changes-passed early = notes-as (IsOfChanges (take i changes) slot) (IsOfChanges (take (i + 1) changes) slot) old between before
      (λ event h. kept event h (taken-cases changes i d inside h.change h.among)) so_far
    where
      kept : (event : LevelEvent) (h : IsOfChanges (take (i + 1) changes) slot event) → Contains (take i changes) h.change ⊎ (get_or changes i d ≡ h.change) → IsOfChanges (take i changes) slot event
      kept event h (inl among) = record { change = h.change; among = among; later = h.later; is = h.is }
      kept event h (inr here) = absurd (omega (arith, early, h.later, ap (λ (c : Change). c.tick) here))

-- ---- all changes of a net by its stimulus

pub changes-are_stimulus : (design : Design) (net : ℕ) (old new : Calendar)
    → NotesEach (IsOfChanges (changes_between (stimulus design net) 0 design.horizon) net) old new → NotesEach (IsOfStimulus design net) old new
changes-are_stimulus design net old new notes =
    notes-as (IsOfChanges (changes_between (stimulus design net) 0 design.horizon) net) (IsOfStimulus design net) old new there back notes
  where
    there : (event : LevelEvent) → IsOfChanges (changes_between (stimulus design net) 0 design.horizon) net event → IsOfStimulus design net event
    there event h =
        let is = change-among (stimulus design net) design.horizon h.change h.among in
        let at : h.change.tick ≡ event.tick = ap (λ (t : LevelEvent). t.tick) (sym h.is) in
        let differs : stimulus design net (h.change.tick - 1) ≢ stimulus design net h.change.tick =
        λ same. is.2 (sym (before-later (stimulus design net) h.change.tick h.later ∙ same)) in
        record {
          slot = ap (λ (t : LevelEvent). t.slot) h.is;
          later = omega (arith, at, h.later);
          within = omega (arith, at, is.0);
          differs = subst (λ (t : ℕ). stimulus design net (t - 1) ≢ stimulus design net t) at differs;
          level = ap (λ (t : LevelEvent). t.level) h.is ∙ is.1 ∙ ap (stimulus design net) at;
        }

    back : (event : LevelEvent) → IsOfStimulus design net event → IsOfChanges (changes_between (stimulus design net) 0 design.horizon) net event
    back event h = record {
      change = change_to (stimulus design net) event.tick;
      among = among-changes (stimulus design net) design.horizon event.tick h.within (λ same. h.differs (sym (same ∙ before-later (stimulus design net) event.tick h.later)));
      later = h.later;
      is = ap₂ (λ (slot : ℕ) (level : Level). tell_to slot (record { tick = event.tick; level = level })) h.slot h.level;
    }

-- ---- one more net

module _ (design : Design) (roles : List Role) (net : ℕ) (old between new : Calendar) (same : between.horizon ≡ old.horizon)
    (so_far : NotesEach (λ event. IsOfInput design roles event × (event.slot < net)) old between) where
  pub inputs-noted : net < nets_of design → (driver_of design.netlist net ≡ Input) × (drives roles net ≡ true) → NotesEach (IsOfStimulus design net) between new
      → NotesEach (λ event. IsOfInput design roles event × (event.slot < net + 1)) old new
  inputs-noted inside is noted =
      notes-more (λ event. IsOfInput design roles event × (event.slot < net)) (IsOfStimulus design net) (λ event. IsOfInput design roles event × (event.slot < net + 1)) old between new same
      (λ event h. parts event h (cases_lt event.slot net)) (λ event h. (h.0, omega (arith, h.1))) last so_far noted
    where
      parts : (event : LevelEvent) → IsOfInput design roles event × (event.slot < net + 1) → (event.slot < net) ⊎ (net ≤ event.slot)
          → (IsOfInput design roles event × (event.slot < net)) ⊎ IsOfStimulus design net event
      parts event h (inl l) = inl (h.0, l)
      parts event h (inr l) =
          let e : event.slot ≡ net = omega (arith, l, h.1) in
          inr (subst (λ (n : ℕ). IsOfStimulus design n event) e h.0.change)

      last : (event : LevelEvent) → IsOfStimulus design net event → IsOfInput design roles event × (event.slot < net + 1)
      last event h =
          let input : IsOfInput design roles event = record {
            net = omega (arith, h.slot, inside);
            input = ap (driver_of design.netlist) h.slot ∙ is.0;
            driven = ap (drives roles) h.slot ∙ is.1;
            change = subst (λ (n : ℕ). IsOfStimulus design n event) (sym h.slot) h;
          } in
          (input, omega (arith, h.slot))

  pub inputs-passed : (driver_of design.netlist net ≡ Input → drives roles net ≡ true → ⊥) → NotesEach (λ event. IsOfInput design roles event × (event.slot < net + 1)) old between
  inputs-passed other =
      notes-as (λ event. IsOfInput design roles event × (event.slot < net)) (λ event. IsOfInput design roles event × (event.slot < net + 1)) old between
      (λ event h. (h.0, omega (arith, h.1))) (λ event h. kept event h (cases_lt event.slot net)) so_far
    where
      kept : (event : LevelEvent) → IsOfInput design roles event × (event.slot < net + 1) → (event.slot < net) ⊎ (net ≤ event.slot) → IsOfInput design roles event × (event.slot < net)
      kept event h (inl l) = (h.0, l)
      kept event h (inr l) =
          let e : event.slot ≡ net = omega (arith, l, h.1) in
          absurd (other (ap (driver_of design.netlist) (sym e) ∙ h.0.input) (ap (drives roles) (sym e) ∙ h.0.driven))

pub inputs-all : (design : Design) (roles : List Role) (nets : ℕ) (old new : Calendar) → nets_of design ≤ nets
    → NotesEach (λ event. IsOfInput design roles event × (event.slot < nets)) old new → NotesEach (IsOfInput design roles) old new
inputs-all design roles nets old new all notes =
    notes-as (λ event. IsOfInput design roles event × (event.slot < nets)) (IsOfInput design roles) old new (λ event h. h.0) (λ event h. (h, omega (arith, h.net, all))) notes
