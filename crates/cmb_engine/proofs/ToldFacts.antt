-- What is told of a window, and of the ticks behind it once that was taken from the calendar and the changes that lines
-- show later were noted.
use Rattle.std.proofs.Common.{◌≡◌, ℕ, suc, ◌+◌, ◌-◌, ◌<◌, ◌≤◌, ◌⊎◌, inl, inr, true, false, List, length, get_or, refl, sym, ap, subst, ◌∙◌, arith, ltb}
use Rattle.std.specs.Prelude.{◌==◌, None, Some, All, Contains, slice_get}
use Rattle.std.proofs.lemmas.Bool.{cases_Bool, cases_lt, eqb-true, false≢true, le-ltb}
use Rattle.std.proofs.lemmas.List.Elements.{All-contains}
use Rattle.std.proofs.lemmas.List.Folds.{Any-from_list_any}
use Rattle.std.proofs.lemmas.Option.{slice_get_cases, slice_get_within, get_or_from_slice_get}
use Rattle.cmb_wave.specs.declared.level.Level.{Level}
use Rattle.cmb_wave.specs.Waveform.{same_level}
use Rattle.cmb_wave.proofs.Lists.{same_level-same, test_of_same}
use Rattle.cmb_wheel.specs.Calendars.{Calendar, Takes, AreInOrder}
use Rattle.cmb_wheel.specs.declared.event.LevelEvent.{LevelEvent}
use Rattle.cmb_design_model.specs.Design.{Design}
use Rattle.cmb_design_model.specs.Exact.{nets_of}
use Rattle.cmb_design_model.specs.Value.{delayed}
use Rattle.cmb_words.specs.declared.changed.Changed.{Changed}
use Rattle.cmb_words.specs.Changes.{TellsNet, is_among}
use Rattle.cmb_words.specs.Word.{level_at_place}
use Rattle.cmb_words.proofs.StillFacts.{still-ticks}
use Rattle.cmb_words.proofs.TellsFacts.{tells-level}
use Rattle.cmb_engine.specs.Inner.Ahead.{TellsAhead}
use Rattle.cmb_engine.specs.Inner.Bits.{has}
use Rattle.cmb_engine.specs.Inner.Cells.{Cell, cell_at, is_made}
use Rattle.cmb_engine.specs.Inner.Collects.{IsWanted}
use Rattle.cmb_engine.specs.Inner.Lines.{IsAhead, IsOfLine, NotesEach}
use Rattle.cmb_engine.specs.Inner.Roles.{gives, level_in}
use Rattle.cmb_engine.specs.Inner.Tells.{AreTold, AreOfWindow, IsRight, IsTold, reach_of}
use Rattle.cmb_engine.specs.Inner.Traces.{IsPlan, trace_of}
use Rattle.cmb_engine.specs.Shares.{TellsAll}
use Rattle.cmb_engine.specs.declared.cell.Pin.{Pin}
use Rattle.cmb_engine.specs.declared.role.Role.{Role}
use Rattle.cmb_engine.proofs.SlotFacts.{trace-line, reach-net, reach-line}

-- a window goes from the clock on, so many ticks at most and not beyond the horizon
pub record IsWindow (calendar : Calendar) (width horizon from to first : ℕ) : Type 0 where
  pub same_horizon : calendar.horizon ≡ horizon
  pub begun : 1 ≤ from
  pub some : from < to
  pub short : to ≤ from + width
  pub within : to ≤ horizon
  pub place : to + first ≡ from + 64

-- ---- what lines show

-- a waveform so many ticks later
delayed-later : (level : ℕ → Level) (ticks past tick : ℕ) → tick ≡ past + ticks → delayed level ticks tick ≡ level past
delayed-later level ticks past tick is =
    let e : ltb tick ticks ≡ false = le-ltb _ _ (omega arith) in
    let at : tick - ticks ≡ past = omega arith in
    rw e (ap level at)

-- one of the nets that changed
among-one : (net : ℕ) (changed : List Changed) → is_among net changed ≡ true → (one : Changed) × Contains changed one × (one.net ≡ net)
among-one net changed h =
    let any = Any-from_list_any (λ (one : Changed). one.net == net) changed h in
    (any.1, (any.0, any.2, any.3), eqb-true _ _ any.4)

-- what a word tells of a net, by places
word-tells : (level : ℕ → ℕ → Level) (from to first place tick : ℕ) (one : Changed) → TellsNet level from to one → to + first ≡ from + 64 → first ≤ place + 1 → place < 64
    → tick + 64 ≡ to + place → level_at_place one.word place ≡ level one.net tick
word-tells level from to first place tick one tells window late small at =
    let e : tick + 64 - to ≡ place = omega arith in
    ap (λ n. level_at_place one.word n) (sym e) ∙ tells-level level from to one tells tick (omega arith) (omega arith)

abbrev tell_at : ℕ → ℕ → Level → LevelEvent
tell_at tick slot level = record { tick = tick; slot = slot; level = level }

event-same : (tick tick' slot slot' : ℕ) (level level' : Level) → tick ≡ tick' → slot ≡ slot' → level ≡ level' → tell_at tick slot level ≡ tell_at tick' slot' level'
event-same tick tick' slot slot' level level' a b c =
    ap (λ t. tell_at t slot level) a ∙ ap (λ s. tell_at tick' s level) b ∙ ap (λ l. tell_at tick' slot' l) c

-- what is told of a window is taken: `from` is the clock, `to` where it goes
module _ (design : Design) (roles : List Role) (lines : List Pin) (most width horizon : ℕ) (cells : List Cell) (plan : IsPlan design roles lines most width cells)
    (old between : Calendar) (taken : List LevelEvent) (from to first : ℕ) (window : IsWindow old width horizon from to first) (takes : Takes to old between taken)
    (below : (event : LevelEvent) → Contains old.tells event → event.tick < horizon)
    (told : AreTold (trace_of design roles lines) (cell_at cells) (gives roles) (length cells) (reach_of (nets_of design) lines horizon) horizon from old.tells) where
  -- a line of a slot
  line-of : (slot : ℕ) → slot < length cells → nets_of design ≤ slot
      → (line : Pin) × (slice_get lines (slot - nets_of design) ≡ Some line) × (line.net < nets_of design) × (width ≤ line.delay)
  line-of slot small late = go (slice_get_cases lines (slot - nets_of design)).1
    where
      go : ((x : Pin) × (slot - nets_of design < length lines) × (slice_get lines (slot - nets_of design) ≡ Some x) × (get_or lines (slot - nets_of design) x ≡ x))
          ⊎ ((length lines ≤ slot - nets_of design) × (slice_get lines (slot - nets_of design) ≡ None))
          → (line : Pin) × (slice_get lines (slot - nets_of design) ≡ Some line) × (line.net < nets_of design) × (width ≤ line.delay)
      go (inl h) =
          let source : (h.0.net < nets_of design) × (width ≤ h.0.delay) × (h.0.delay ≤ 1000000) =
          subst (λ (line : Pin). (line.net < nets_of design) × (width ≤ line.delay) × (line.delay ≤ 1000000)) h.3 (plan.sources (slot - nets_of design) h.0 h.1) in
          (h.0, h.2, source.0, source.1)
      go (inr h) = absurd (omega (arith, h.0, plan.count, small, late))

  -- a told slot is told to the window's end
  reached : (slot : ℕ) → slot < length cells → to ≤ from + reach_of (nets_of design) lines horizon slot
  reached slot small = go (cases_lt slot (nets_of design))
    where
      go : (slot < nets_of design) ⊎ (nets_of design ≤ slot) → to ≤ from + reach_of (nets_of design) lines horizon slot
      go (inl l) = omega (arith, reach-net (nets_of design) lines horizon slot l, window.within)
      go (inr l) =
          let line = line-of slot small l in
          omega (arith, reach-line (nets_of design) lines horizon slot line.0 l line.1, line.3, window.short)

  -- what was taken tells of the window
  pub window-told : AreInOrder taken → AreOfWindow (trace_of design roles lines) (cell_at cells) (gives roles) (length cells) from to taken
  window-told order = record {
    right = λ event h.
        let was = (takes.early event).0 h in
        let right = told.right event was.0 in
        (right.0, right.1, was.1);
    all = λ slot tick inside untold other late small.
        let reach = reached slot inside in
        let near : tick < horizon = omega (arith, small, window.within) in
        go slot tick small (told.all slot tick inside untold other late (omega (arith, small, reach)) near);
    order = order;
  }
    where
      go : (slot tick : ℕ) → tick < to → IsTold (trace_of design roles lines) old.tells slot tick → IsTold (trace_of design roles lines) taken slot tick
      go slot tick small (inl h) = inl h
      go slot tick small (inr h) = inr ((takes.early _).1 (h, small))

  -- the delays of lines are long enough for what they show of the window
  pub lines-ahead : All (IsAhead between to first) lines
  lines-ahead k d inside =
      let source = plan.sources k d inside in
      (source.2, omega (arith, takes.clock, source.1, window.short, window.place))

  -- the calendar then, of which the tells of lines were noted
  module _ (new : Calendar) (changed : List Changed) (noted : NotesEach (IsOfLine changed lines (nets_of design) to first) between new)
      (wanted : List ℕ) (followed : All (λ line. has wanted line.net ≡ true) lines) (tells : TellsAll (IsWanted wanted (nets_of design)) (level_in design roles) from to changed) where
    same : between.horizon ≡ horizon
    same = takes.horizon ∙ window.same_horizon

    -- nothing is told of the horizon or of what lies behind it
    pub still-below : (event : LevelEvent) → Contains new.tells event → event.tick < horizon
    still-below event h = go ((noted event).0 h)
      where
        go : Contains between.tells event ⊎ (IsOfLine changed lines (nets_of design) to first event × (event.tick < between.horizon)) → event.tick < horizon
        go (inl a) = below event ((takes.late event).0 a).0
        go (inr a) = omega (arith, a.1, same)

    -- a tell of a line is right, and ahead of the window
    noted-right : (event : LevelEvent) → IsOfLine changed lines (nets_of design) to first event → IsRight (trace_of design roles lines) (cell_at cells) (length cells) event × (to ≤ event.tick)
    noted-right event h =
        subst (λ (t : LevelEvent). IsRight (trace_of design roles lines) (cell_at cells) (length cells) t × (to ≤ t.tick)) (sym h.change.is)
        (record { slot = omega (arith, inside, plan.count); told = plan.told (nets_of design + h.number) (omega arith); level = level }, omega (arith, source.1, window.place, h.change.from, window.short))
      where
        inside : h.number < length lines
        inside = slice_get_within lines h.number h.line h.has_number

        source : (h.line.net < nets_of design) × (width ≤ h.line.delay) × (h.line.delay ≤ 1000000)
        source =
            subst (λ (line : Pin). (line.net < nets_of design) × (width ≤ line.delay) × (line.delay ≤ 1000000)) (get_or_from_slice_get lines h.number h.line h.line h.has_number)
            (plan.sources h.number h.line inside)

        word : level_at_place h.one.word h.change.place ≡ level_in design roles h.one.net (to + h.change.place - 64)
        word =
            word-tells (level_in design roles) from to first h.change.place (to + h.change.place - 64) h.one (All-contains (TellsNet (level_in design roles) from to) changed h.one tells.words h.among) window.place
            (omega (arith, h.change.from)) h.change.within (omega (arith, window.place, h.change.from))

        slot : nets_of design + h.number - nets_of design ≡ h.number
        slot = omega arith

        level : level_at_place h.one.word h.change.place ≡ trace_of design roles lines (nets_of design + h.number) (to + h.change.place - 64 + h.line.delay)
        level =
            word ∙ ap (λ n. level_in design roles n (to + h.change.place - 64)) (sym h.follows)
            ∙ sym (delayed-later (level_in design roles h.line.net) h.line.delay (to + h.change.place - 64) (to + h.change.place - 64 + h.line.delay) refl)
            ∙ sym (trace-line design roles lines (nets_of design + h.number) (to + h.change.place - 64 + h.line.delay) h.line (omega arith) (ap (λ n. slice_get lines n) slot ∙ h.has_number))

    -- what was told is told still
    told-still : (slot tick : ℕ) → to ≤ tick → tick < horizon → IsTold (trace_of design roles lines) old.tells slot tick → IsTold (trace_of design roles lines) new.tells slot tick
    told-still slot tick late near (inl h) = inl h
    told-still slot tick late near (inr h) = inr ((noted _).1 (inl ((takes.late _).1 (h, late))))

    -- a net that a line follows is wanted
    following : (line : Pin) (number : ℕ) → slice_get lines number ≡ Some line → has wanted line.net ≡ true
    following line number is =
        subst (λ (l : Pin). has wanted l.net ≡ true) (get_or_from_slice_get lines number line line is) (followed number line (slice_get_within lines number line is))

    -- what a line shows of the window is told
    told-line : (slot tick past : ℕ) (line : Pin) → nets_of design ≤ slot → slice_get lines (slot - nets_of design) ≡ Some line → IsWanted wanted (nets_of design) line.net
        → tick ≡ past + line.delay → from ≤ past → past < to → tick < horizon → IsTold (trace_of design roles lines) new.tells slot tick
    told-line slot tick past line late is want at begun ended near = go (cases_Bool (is_among line.net changed))
      where
        now : trace_of design roles lines slot tick ≡ level_in design roles line.net past
        now = trace-line design roles lines slot tick line late is ∙ delayed-later (level_in design roles line.net) line.delay past tick at

        before : trace_of design roles lines slot (tick - 1) ≡ level_in design roles line.net (past - 1)
        before = trace-line design roles lines slot (tick - 1) line late is ∙ delayed-later (level_in design roles line.net) line.delay (past - 1) (tick - 1) (omega (arith, at, begun, window.begun))

        next : suc (past - 1) ≡ past
        next = omega (arith, begun, window.begun)

        steady : level_in design roles line.net (past - 1) ≡ level_in design roles line.net past → IsTold (trace_of design roles lines) new.tells slot tick
        steady e = inl (before ∙ e ∙ sym now)

        change : (one : Changed) → Contains changed one → one.net ≡ line.net
            → (same_level (level_at_place one.word (past + 64 - to - 1)) (level_at_place one.word (past + 64 - to)) ≡ true)
            ⊎ (same_level (level_at_place one.word (past + 64 - to - 1)) (level_at_place one.word (past + 64 - to)) ≡ false)
            → IsTold (trace_of design roles lines) new.tells slot tick
        change one among of either = decide either
          where
            word : TellsNet (level_in design roles) from to one
            word = All-contains (TellsNet (level_in design roles) from to) changed one tells.words among

            begins : 1 ≤ first
            begins = omega (arith, window.place, window.short, plan.fits)

            here : level_at_place one.word (past + 64 - to) ≡ level_in design roles one.net past
            here =
                word-tells (level_in design roles) from to first (past + 64 - to) past one word window.place (omega (arith, window.place, begun)) (omega (arith, ended))
                (omega (arith, window.place, begun))

            there : level_at_place one.word (past + 64 - to - 1) ≡ level_in design roles one.net (past - 1)
            there =
                word-tells (level_in design roles) from to first (past + 64 - to - 1) (past - 1) one word window.place (omega (arith, window.place, begun, begins)) (omega (arith, ended))
                (omega (arith, window.place, window.begun, begun, begins))

            decide : (same_level (level_at_place one.word (past + 64 - to - 1)) (level_at_place one.word (past + 64 - to)) ≡ true)
                ⊎ (same_level (level_at_place one.word (past + 64 - to - 1)) (level_at_place one.word (past + 64 - to)) ≡ false)
                → IsTold (trace_of design roles lines) new.tells slot tick
            decide (inl e) =
                steady (subst (λ (n : ℕ). level_in design roles n (past - 1) ≡ level_in design roles n past) of (sym there ∙ test_of_same _ _ e ∙ here))
            decide (inr d) = inr ((noted (tell_at tick slot (trace_of design roles lines slot tick))).1 (inr (
              record {
                one = one;
                number = slot - nets_of design;
                line = line;
                among = among;
                has_number = is;
                follows = sym of;
                change = record {
                  place = past + 64 - to;
                  from = omega (arith, window.place, begun);
                  within = omega (arith, ended);
                  differs = λ e. absurd (false≢true (sym d ∙ same_level-same _ _ e));
                  is = event-same tick (to + (past + 64 - to) - 64 + line.delay) slot (nets_of design + (slot - nets_of design)) (trace_of design roles lines slot tick) (level_at_place one.word (past + 64 - to))
                      (omega (arith, at, window.place, begun)) (omega (arith, late)) (now ∙ ap (λ n. level_in design roles n past) (sym of) ∙ sym here);
                };
              },
              omega (arith, same, near),
            )))

        go : (is_among line.net changed ≡ true) ⊎ (is_among line.net changed ≡ false) → IsTold (trace_of design roles lines) new.tells slot tick
        go (inl h) =
            let one = among-one line.net changed h in
            change one.0 one.1 one.2 (cases_Bool (same_level (level_at_place one.0.word (past + 64 - to - 1)) (level_at_place one.0.word (past + 64 - to))))
        go (inr h) =
            let still = still-ticks (level_in design roles line.net) from to (tells.others line.net want h) (past - 1) (omega (arith, next, begun)) (omega (arith, next, ended)) in
            steady (still ∙ ap (λ n. level_in design roles line.net n) next)

    -- the calendar has what is told of the ticks from the window's end on
    pub told-ahead : AreTold (trace_of design roles lines) (cell_at cells) (gives roles) (length cells) (reach_of (nets_of design) lines horizon) horizon to new.tells
    told-ahead = record {
      right = λ event h. judged event ((noted event).0 h);
      all = λ slot tick inside untold other late ahead near.
          split slot tick inside untold other late ahead near (cases_lt tick (from + reach_of (nets_of design) lines horizon slot)) (cases_lt slot (nets_of design));
    }
      where
        judged : (event : LevelEvent) → Contains between.tells event ⊎ (IsOfLine changed lines (nets_of design) to first event × (event.tick < between.horizon))
            → IsRight (trace_of design roles lines) (cell_at cells) (length cells) event × (to ≤ event.tick)
        judged event (inl a) =
            let late = (takes.late event).0 a in
            let right = told.right event late.0 in
            (right.0, late.1)
        judged event (inr a) = noted-right event a.0

        split : (slot tick : ℕ) → slot < length cells → is_made (cell_at cells slot) ≡ false → gives roles slot ≡ false → to ≤ tick → tick < to + reach_of (nets_of design) lines horizon slot → tick < horizon
            → (tick < from + reach_of (nets_of design) lines horizon slot) ⊎ (from + reach_of (nets_of design) lines horizon slot ≤ tick) → (slot < nets_of design) ⊎ (nets_of design ≤ slot)
            → IsTold (trace_of design roles lines) new.tells slot tick
        split slot tick inside untold other late ahead near (inl soon) net =
            told-still slot tick late near (told.all slot tick inside untold other (omega (arith, late, window.some)) soon near)
        split slot tick inside untold other late ahead near (inr far) (inl net) = absurd (omega (arith, far, near, reach-net (nets_of design) lines horizon slot net))
        split slot tick inside untold other late ahead near (inr far) (inr line) =
            let of = line-of slot inside line in
            let reach = reach-line (nets_of design) lines horizon slot of.0 line of.1 in
            told-line slot tick (tick - of.0.delay) of.0 line of.1 (of.2, following of.0 (slot - nets_of design) of.1) (omega (arith, far, reach)) (omega (arith, far, reach)) (omega (arith, ahead, far, reach, window.some)) near

-- ---- the same of an engine's calendar

module _ (design : Design) (roles : List Role) (lines : List Pin) (most width : ℕ) (cells : List Cell) (plan : IsPlan design roles lines most width cells)
    (old between : Calendar) (taken : List LevelEvent) (from to first : ℕ) (kept : TellsAhead design roles lines cells from old)
    (begun : 1 ≤ from) (some : from < to) (short : to ≤ from + width) (within : to ≤ design.horizon) (place : to + first ≡ from + 64) (takes : Takes to old between taken) where
  window : IsWindow old width design.horizon from to first
  window = record {
    same_horizon = kept.same_horizon;
    begun = begun;
    some = some;
    short = short;
    within = within;
    place = place;
  }

  -- what was taken tells of the window
  pub taken-tells : AreInOrder taken → AreOfWindow (trace_of design roles lines) (cell_at cells) (gives roles) (length cells) from to taken
  taken-tells order = window-told design roles lines most width design.horizon cells plan old between taken from to first window takes kept.below kept.told order

  -- lines may be noted
  pub taken-ahead : All (IsAhead between to first) lines
  taken-ahead = lines-ahead design roles lines most width design.horizon cells plan old between taken from to first window takes kept.below kept.told

  -- and once they are, the calendar has what is told from the window's end on
  pub noted-tells : (new : Calendar) (changed : List Changed) → NotesEach (IsOfLine changed lines (nets_of design) to first) between new
      → new.horizon ≡ between.horizon → new.clock ≡ between.clock → (wanted : List ℕ) → All (λ line. has wanted line.net ≡ true) lines
      → TellsAll (IsWanted wanted (nets_of design)) (level_in design roles) from to changed → TellsAhead design roles lines cells to new
  noted-tells new changed noted same_horizon clock wanted followed tells = record {
    same_horizon = same_horizon ∙ takes.horizon ∙ kept.same_horizon;
    before = omega (arith, clock, takes.clock);
    below = still-below design roles lines most width design.horizon cells plan old between taken from to first window takes kept.below kept.told new changed noted wanted followed tells;
    told = told-ahead design roles lines most width design.horizon cells plan old between taken from to first window takes kept.below kept.told new changed noted wanted followed tells;
  }
