-- What an engine's calendar has when it begins is what is told from tick 1 on.
use Rattle.std.proofs.Common.{◌≡◌, ◌≢◌, ℕ, ◌+◌, ◌-◌, ◌<◌, ◌≤◌, ◌⊎◌, inl, inr, true, false, Some, List, [], length, get_or, refl, sym, ap, ap₂, subst, ◌∙◌, arith, ltb}
use Rattle.std.specs.Prelude.{Contains, slice_get}
use Rattle.std.proofs.lemmas.Bool.{le-ltb, cases_lt, cases_Bool}
use Rattle.std.proofs.lemmas.Option.{get_or_from_slice_get, slice_get-get_or, slice_get_within}
use Rattle.cmb_wave.specs.declared.level.Level.{Level}
use Rattle.cmb_wave.specs.declared.level.Level.TheVariants.{X}
use Rattle.cmb_wave.specs.Waveform.{same_level}
use Rattle.cmb_wave.proofs.Lists.{differs_of_test, test_of_same}
use Rattle.cmb_netlist.specs.Netlist.{driver_of}
use Rattle.cmb_netlist.specs.declared.netlist.Driver.TheVariants.{Input}
use Rattle.cmb_wheel.specs.Calendars.{Calendar}
use Rattle.cmb_wheel.specs.declared.event.LevelEvent.{LevelEvent}
use Rattle.cmb_design_model.specs.Design.{Design}
use Rattle.cmb_design_model.specs.Exact.{nets_of}
use Rattle.cmb_design_model.specs.Timing.{stimulus}
use Rattle.cmb_design_model.proofs.ValueFacts.{value-at_input}
use Rattle.cmb_engine.specs.Inner.Cells.{Cell, cell_at, is_made}
use Rattle.cmb_engine.specs.Inner.Circuits.{Shows}
use Rattle.cmb_engine.specs.Inner.Lines.{NotesEach}
use Rattle.cmb_engine.specs.Inner.Roles.{drives, gives, level_in}
use Rattle.cmb_engine.specs.Inner.Starts.{IsOfInput, IsOfStart, IsOfStimulus}
use Rattle.cmb_engine.specs.Inner.Tells.{AreTold, IsRight, IsTold, reach_of}
use Rattle.cmb_engine.specs.Inner.Traces.{IsPlan, line_level, trace_of}
use Rattle.cmb_engine.specs.declared.cell.Pin.{Pin}
use Rattle.cmb_engine.specs.declared.role.Role.{Role}
use Rattle.cmb_engine.proofs.RoleFacts.{driven-known, level-absent, level-present, other-lacks}
use Rattle.cmb_engine.proofs.SlotFacts.{trace-behind, trace-net, reach-line}
use Rattle.cmb_engine.proofs.ZeroFacts.{line-early}

abbrev tell_to : ℕ → ℕ → Level → LevelEvent
tell_to slot tick level = record { tick = tick; slot = slot; level = level }

-- a tell says what a slot shows at a tick
abbrev tell_at : (ℕ → ℕ → Level) → ℕ → ℕ → LevelEvent
tell_at trace slot tick = tell_to slot tick (trace slot tick)

-- a level is another one or not
same-cases : (a b : Level) → (a ≡ b) ⊎ (a ≢ b)
same-cases a b = go (cases_Bool (same_level a b))
  where
    go : (same_level a b ≡ true) ⊎ (same_level a b ≡ false) → (a ≡ b) ⊎ (a ≢ b)
    go (inl h) = inl (test_of_same a b h)
    go (inr h) = inr (differs_of_test a b h)

-- from its delay on a line shows its net, so many ticks later
pub line-late : (level : ℕ → ℕ → Level) (line : Pin) (tick : ℕ) → line.delay ≤ tick → line_level level (Some line) tick ≡ level line.net (tick - line.delay)
line-late level line tick late = let here : ltb tick line.delay ≡ false = le-ltb _ _ late in rw here refl

-- a line is told as far ahead as it is late
reach-number : (nets : ℕ) (lines : List Pin) (horizon number : ℕ) (line : Pin) → slice_get lines number ≡ Some line → reach_of nets lines horizon (nets + number) ≡ line.delay
reach-number nets lines horizon number line has =
    let place : nets + number - nets ≡ number = omega arith in
    reach-line nets lines horizon (nets + number) line (omega arith) (ap (λ k. slice_get lines k) place ∙ has)

module _ (design : Design) (roles : List Role) (lines : List Pin) (most width : ℕ) (cells : List Cell) (plan : IsPlan design roles lines most width cells) where
  -- what a driven input shows is its stimulus
  input-shows : (slot tick : ℕ) → slot < nets_of design → driver_of design.netlist slot ≡ Input → drives roles slot ≡ true → trace_of design roles lines slot tick ≡ stimulus design slot tick
  input-shows slot tick inside is driven =
      trace-net design roles lines slot tick inside ∙ level-present design roles slot tick (driven-known roles slot driven) ∙ value-at_input design slot tick is

  -- what a line shows
  line-shows : (number tick : ℕ) (line : Pin) → slice_get lines number ≡ Some line → trace_of design roles lines (nets_of design + number) tick ≡ line_level (level_in design roles) (Some line) tick
  line-shows number tick line has =
      let place : nets_of design + number - nets_of design ≡ number = omega arith in
      trace-behind design roles lines (nets_of design + number) tick (omega arith) ∙ ap (λ k. line_level (level_in design roles) (slice_get lines k) tick) place ∙ ap (λ o. line_level (level_in design roles) o tick) has

  -- a line's net is one, and its delay is long
  line-lawful : (number : ℕ) (line : Pin) → slice_get lines number ≡ Some line → (line.net < nets_of design) × (1 ≤ line.delay)
  line-lawful number line has =
      let is : get_or lines number line ≡ line = get_or_from_slice_get lines number line line has in
      let lawful = plan.sources number line (slice_get_within lines number line has) in
      (omega (arith, lawful.0, ap (λ (p : Pin). p.net) is), omega (arith, lawful.1, plan.wide, ap (λ (p : Pin). p.delay) is))

  input-right : (event : LevelEvent) → IsOfInput design roles event → IsRight (trace_of design roles lines) (cell_at cells) (length cells) event × (1 ≤ event.tick)
  input-right event h = (
    record {
      slot = omega (arith, h.net, plan.count);
      told = plan.drivers event.slot h.net h.input;
      level = h.change.level ∙ sym (input-shows event.slot event.tick h.net h.input h.driven);
    },
    h.change.later,
  )

  input-told : (tells : List LevelEvent) → ((event : LevelEvent) → IsOfInput design roles event → event.tick < design.horizon → Contains tells event)
      → (slot tick : ℕ) → slot < nets_of design → drives roles slot ≡ true → is_made (cell_at cells slot) ≡ false → 1 ≤ tick → tick < design.horizon → IsTold (trace_of design roles lines) tells slot tick
  input-told tells has slot tick inside driven told later within = go (same-cases (trace_of design roles lines slot (tick - 1)) (trace_of design roles lines slot tick))
    where
      input : driver_of design.netlist slot ≡ Input
      input = plan.inputs slot inside driven told

      now : (t : ℕ) → trace_of design roles lines slot t ≡ stimulus design slot t
      now t = input-shows slot t inside input driven

      go : (trace_of design roles lines slot (tick - 1) ≡ trace_of design roles lines slot tick) ⊎ (trace_of design roles lines slot (tick - 1) ≢ trace_of design roles lines slot tick)
          → IsTold (trace_of design roles lines) tells slot tick
      go (inl same) = inl same
      go (inr other) =
          let change : IsOfStimulus design slot (tell_at (trace_of design roles lines) slot tick) = record {
            slot = refl;
            later = later;
            within = within;
            differs = λ same. other (now (tick - 1) ∙ same ∙ sym (now tick));
            level = now tick;
          } in
          inr (has (tell_at (trace_of design roles lines) slot tick) (record { net = inside; input = input; driven = driven; change = change }) within)

  module _ (words : ℕ → ℕ → Level) (shows : Shows words (trace_of design roles lines) (nets_of design + length lines) 1) where
    -- the words say what a line's net is at tick 0
    word-shows : (line : Pin) → line.net < nets_of design → words line.net 63 ≡ level_in design roles line.net 0
    word-shows line inside = shows line.net 63 (omega (arith, inside)) (omega arith) ∙ trace-net design roles lines line.net 0 inside

    start-level : (number : ℕ) (line : Pin) → slice_get lines number ≡ Some line → words line.net 63 ≡ trace_of design roles lines (nets_of design + number) line.delay
    start-level number line has =
        let none : line.delay - line.delay ≡ 0 = omega arith in
        word-shows line (line-lawful number line has).0
        ∙ sym (line-shows number line.delay line has ∙ line-late (level_in design roles) line line.delay (omega arith) ∙ ap (level_in design roles line.net) none)

    start-right : (event : LevelEvent) → IsOfStart words lines (nets_of design) event → IsRight (trace_of design roles lines) (cell_at cells) (length cells) event × (1 ≤ event.tick)
    start-right event h =
        subst (λ (t : LevelEvent). IsRight (trace_of design roles lines) (cell_at cells) (length cells) t × (1 ≤ t.tick)) (sym h.is) (
          record {
            slot = omega (arith, slice_get_within lines h.number h.line h.has_number, plan.count);
            told = plan.told (nets_of design + h.number) (omega arith);
            level = start-level h.number h.line h.has_number;
          },
          (line-lawful h.number h.line h.has_number).1,
        )

    start-told : (tells : List LevelEvent) → ((event : LevelEvent) → IsOfStart words lines (nets_of design) event → event.tick < design.horizon → Contains tells event)
        → (number tick : ℕ) (line : Pin) → slice_get lines number ≡ Some line → 1 ≤ tick → tick < 1 + line.delay → tick < design.horizon
        → IsTold (trace_of design roles lines) tells (nets_of design + number) tick
    start-told tells has number tick line is later reach within = go (cases_lt tick line.delay)
      where
        before : trace_of design roles lines (nets_of design + number) (tick - 1) ≡ X
        before = line-shows number (tick - 1) line is ∙ line-early (level_in design roles) line (tick - 1) (omega arith)

        go : (tick < line.delay) ⊎ (line.delay ≤ tick) → IsTold (trace_of design roles lines) tells (nets_of design + number) tick
        go (inl l) = inl (before ∙ sym (line-shows number tick line is ∙ line-early (level_in design roles) line tick l))
        go (inr l) = here (same-cases (words line.net 63) X)
          where
            at : line.delay ≡ tick
            at = omega (arith, l, reach)

            level : words line.net 63 ≡ trace_of design roles lines (nets_of design + number) tick
            level = start-level number line is ∙ ap (trace_of design roles lines (nets_of design + number)) at

            here : (words line.net 63 ≡ X) ⊎ (words line.net 63 ≢ X) → IsTold (trace_of design roles lines) tells (nets_of design + number) tick
            here (inl unknown) = inl (before ∙ sym unknown ∙ level)
            here (inr known) =
                inr (has (tell_at (trace_of design roles lines) (nets_of design + number) tick)
                (record { number = number; line = line; has_number = is; known = known; is = ap₂ (tell_to (nets_of design + number)) (sym at) (sym level) }) within)

    -- the calendar of an engine that begins has what is told from tick 1 on
    pub starts-told : (empty noted started : Calendar) → empty.tells ≡ [] → empty.horizon ≡ design.horizon → noted.horizon ≡ empty.horizon
        → NotesEach (IsOfInput design roles) empty noted → NotesEach (IsOfStart words lines (nets_of design)) noted started
        → AreTold (trace_of design roles lines) (cell_at cells) (gives roles) (length cells) (reach_of (nets_of design) lines design.horizon) design.horizon 1 started.tells
    starts-told empty noted started none horizon same inputs starts = record { right = λ event h. right event ((starts event).0 h); all = all }
      where
        early : (event : LevelEvent) → Contains empty.tells event ⊎ (IsOfInput design roles event × (event.tick < empty.horizon))
            → IsRight (trace_of design roles lines) (cell_at cells) (length cells) event × (1 ≤ event.tick)
        early event (inl h) = absurd (omega (arith, h.1, ap length none))
        early event (inr h) = input-right event h.0

        right : (event : LevelEvent) → Contains noted.tells event ⊎ (IsOfStart words lines (nets_of design) event × (event.tick < noted.horizon))
            → IsRight (trace_of design roles lines) (cell_at cells) (length cells) event × (1 ≤ event.tick)
        right event (inl h) = early event ((inputs event).0 h)
        right event (inr h) = start-right event h.0

        has-input : (event : LevelEvent) → IsOfInput design roles event → event.tick < design.horizon → Contains started.tells event
        has-input event h within = (starts event).1 (inl ((inputs event).1 (inr (h, omega (arith, within, horizon)))))

        has-start : (event : LevelEvent) → IsOfStart words lines (nets_of design) event → event.tick < design.horizon → Contains started.tells event
        has-start event h within = (starts event).1 (inr (h, omega (arith, within, horizon, same)))

        all : (slot tick : ℕ) → slot < length cells → is_made (cell_at cells slot) ≡ false → gives roles slot ≡ false → 1 ≤ tick → tick < 1 + reach_of (nets_of design) lines design.horizon slot
            → tick < design.horizon → IsTold (trace_of design roles lines) started.tells slot tick
        all slot tick inside told other later reach within = go (cases_lt slot (nets_of design))
          where
            -- an absent net is 0 for ever
            net : slot < nets_of design → (drives roles slot ≡ true) ⊎ (drives roles slot ≡ false) → IsTold (trace_of design roles lines) started.tells slot tick
            net l (inl driven) = input-told started.tells has-input slot tick l driven told later within
            net l (inr undriven) =
                let absent = other-lacks roles slot undriven other in
                inl (trace-net design roles lines slot (tick - 1) l ∙ level-absent design roles slot (tick - 1) absent
                ∙ sym (trace-net design roles lines slot tick l ∙ level-absent design roles slot tick absent))

            go : (slot < nets_of design) ⊎ (nets_of design ≤ slot) → IsTold (trace_of design roles lines) started.tells slot tick
            go (inl l) = net l (cases_Bool (drives roles slot))
            go (inr l) =
                let number : ℕ = slot - nets_of design in
                let at : nets_of design + number ≡ slot = omega (arith, l) in
                let d : Pin = record { net = 0; delay = 0 } in
                let has : slice_get lines number ≡ Some (get_or lines number d) = slice_get-get_or lines number d (omega (arith, inside, plan.count, l)) in
                let ahead : tick < 1 + (get_or lines number d).delay =
                omega (arith, reach, ap (reach_of (nets_of design) lines design.horizon) at, reach-number (nets_of design) lines design.horizon number (get_or lines number d) has) in
                subst (λ (s : ℕ). IsTold (trace_of design roles lines) started.tells s tick) at
                (start-told started.tells has-start number tick (get_or lines number d) has later ahead within)
