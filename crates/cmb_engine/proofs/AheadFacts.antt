-- What flip-flops do in a window by samples that were taken before it.
use Rattle.std.proofs.Common.{◌≡◌, ℕ, zero, suc, ◌+◌, ◌-◌, ◌%◌, ◌<◌, ◌≤◌, ◌⊎◌, inl, inr, ◌&&◌, ◌==◌, min, true, false, List, [], ◌∷◌, ◌++◌, length, get_or, take, if◌then◌else◌, refl, sym, ap, subst, ◌∙◌, arith, append_assoc}
use Rattle.std.specs.Prelude.{Contains, nat_le}
use Rattle.std.proofs.lemmas.Bool.{cases_lt, cases_Bool, eq-eqb, false≢true, or_parts}
use Rattle.std.proofs.lemmas.List.{append-nil, take_more}
use Rattle.std.proofs.lemmas.List.Elements.{Contains-append_cases, Contains-append_left, Contains-append_right, Contains-push_cases}
use Rattle.std.proofs.lemmas.List.Folds.{list_any-append}
use Rattle.cmb_wave.specs.declared.level.Level.{Level}
use Rattle.cmb_design_model.specs.declared.rows.Clock.{Clock}
use Rattle.cmb_words.specs.declared.changed.Changed.{Changed}
use Rattle.cmb_words.specs.declared.word.Word.{Word}
use Rattle.cmb_engine.specs.Inner.Planes.{Planes, planes_of}
use Rattle.cmb_words.specs.Changes.{IsStill, TellsNet, is_among}
use Rattle.cmb_words.specs.Word.{level_at_place}
use Rattle.cmb_words.specs.Holds.{AreSamples, Holds}
use Rattle.cmb_words.proofs.StillFacts.{ticks-still}
use Rattle.cmb_words.proofs.TellsFacts.{levels-tell}
use Rattle.cmb_engine.specs.Inner.Cells.{Cell, Told, Gate, Flop, cell_at, is_made, cell_level, IsLawful, IsSteadyFrom}
use Rattle.cmb_engine.specs.Inner.Circuits.{cell_row, IsFlopAt, IsFlopOf, MeetsCells, Shows}
use Rattle.cmb_engine.specs.Inner.Exports.{moved_on, slots_of, AddsSlots, AreTakenBefore, HoldsAhead}
use Rattle.cmb_engine.specs.Inner.Windows.{in_place}
use Rattle.cmb_engine.specs.Inner.Words.{levels_of}
use Rattle.cmb_engine.specs.Rows.{arrives_by}
use Rattle.cmb_engine.specs.declared.cell.Pin.{Pin}
use Rattle.cmb_engine.specs.declared.group.Group.{Group}
use Rattle.cmb_engine.proofs.CollectFacts.{shown-at, steady-still}
use Rattle.cmb_engine.proofs.GroupFacts.{flop-made}
use Rattle.cmb_engine.proofs.NoteFacts.{taken-before, taken-cases, taken-last}
use Rattle.cmb_engine.proofs.TraceFacts.{shown, shown-settled}
use Rattle.cmb_engine.proofs.WindowFacts.{IsWindow, moved-below}
use Rattle.cmb_engine.proofs.WordFacts.{levels_of-read}

-- a flip-flop whose data have the level that it has, as far back as its samples were taken, keeps it
pub rests-held : (own input : ℕ → Level) (delay arrival period first : ℕ) → AreSamples delay arrival period first → IsSteadyFrom own first
    → ((place : ℕ) → first - delay ≤ place → place < 64 → input place ≡ own (first - 1)) → Holds own input own delay arrival period first
rests-held own input delay arrival period first samples steady same = record {
  below = λ place l. refl;
  from = λ place late small. go place late small (cases_Bool (nat_le arrival place && ((place - arrival) % period == 0)));
}
  where
    before : (place : ℕ) → first ≤ place → place < 64 → (place - 1 < first) ⊎ (first ≤ place - 1) → own (place - 1) ≡ own (first - 1)
    before place late small (inl l) = ap own (omega (arith, samples.least))
    before place late small (inr l) = steady (place - 1) l (omega arith)

    go : (place : ℕ) → first ≤ place → place < 64 → (nat_le arrival place && ((place - arrival) % period == 0) ≡ true) ⊎ (nat_le arrival place && ((place - arrival) % period == 0) ≡ false)
        → own place ≡ (if nat_le arrival place && ((place - arrival) % period == 0) then input (place - delay) else own (place - 1))
    go place late small (inl a) = rw a (steady place late small ∙ sym (same (place - delay) (omega arith) (omega arith)))
    go place late small (inr a) = rw a (steady place late small ∙ sym (before place late small (cases_lt (place - 1) first)))

-- words that move on hold their last level
pub moved-steady : (words : ℕ → ℕ → Level) (ticks slot : ℕ) → 64 - ticks < 64 → IsSteadyFrom (moved_on words ticks slot) (64 - ticks)
moved-steady words ticks slot some place late small =
    let here : min (place + ticks) 63 ≡ 63 = omega (arith, late) in
    let there : min (64 - ticks - 1 + ticks) 63 ≡ 63 = omega (arith, some) in
    ap (words slot) (here ∙ sym there)

-- so does a flip-flop's word, where its data have that level
pub moved-rests : (words : ℕ → ℕ → Level) (slot ticks arrival : ℕ) (clock : Clock) (pin : Pin) → 1 ≤ ticks → ticks < 64 → pin.delay ≤ 64 - ticks → 64 - ticks ≤ arrival → 1 ≤ clock.period
    → ((place : ℕ) → min (64 - pin.delay) 63 ≤ place → place < 64 → words pin.net place ≡ words slot 63) → HoldsAhead words (moved_on words ticks slot) ticks arrival slot clock pin
moved-rests words slot ticks arrival clock pin some fits near later paced same =
    rests-held (moved_on words ticks slot) (moved_on words ticks pin.net) pin.delay arrival clock.period (64 - ticks)
    (record { least = omega (arith, fits); most = omega (arith, some); near = near; later = later; some = paced })
    (λ place late small. ap (words slot) (ends place (omega (arith, late)) ∙ sym (ends (64 - ticks - 1) (omega (arith, fits)))))
    (λ place late small. same (min (place + ticks) 63) (reaches place late) (omega arith) ∙ ap (words slot) (sym (ends (64 - ticks - 1) (omega (arith, fits)))))
  where
    ends : (place : ℕ) → 63 ≤ place + ticks → min (place + ticks) 63 ≡ 63
    ends place late = omega (arith, late)

    reaches : (place : ℕ) → 64 - ticks - pin.delay ≤ place → min (64 - pin.delay) 63 ≤ min (place + ticks) 63
    reaches place late = omega (arith, late, near, fits)

-- the word of a flip-flop at the end of a window, by the words at its begin, where its samples were taken before
module _ (trace words : ℕ → ℕ → Level) (cells : List Cell) (count from ticks to first : ℕ) (meets : MeetsCells trace (cell_at cells)) (shows : Shows words trace count from)
    (window : IsWindow from ticks to first 0) (slot : ℕ) (clock : Clock) (pin : Pin) (is : cell_at cells slot ≡ Flop clock pin) (inside : slot < count) (lawful : IsLawful count first (Flop clock pin))
    (arrival : ℕ) (arrives : (place : ℕ) → first ≤ place → place < 64
    → arrives_by clock pin.delay (to + place - 64) ≡ (nat_le arrival place && ((place - arrival) % clock.period == 0)))
    (taken : AreTakenBefore clock pin.delay to first) (held : ℕ → Level)
    (holds : Holds (moved_on words ticks slot) (moved_on words ticks pin.net) held pin.delay arrival clock.period first) where
  moved-shows : (other place : ℕ) → other < count → place < first → moved_on words ticks other place ≡ in_place (trace other) to place
  moved-shows = moved-below trace from ticks to first 0 count window words (moved_on words ticks) shows (λ other place small. refl)

  settled : (place : ℕ) → first ≤ place → place < 64 → shown trace to slot place ≡ cell_level (shown trace to) (shown trace to slot) to (Flop clock pin) place
  settled place late small =
      shown-settled trace to (cell_at cells) count first slot meets (omega arith) (omega arith) (subst (IsLawful count first) (sym is) lawful) (ap is_made is) place late small
      ∙ ap (λ (cell : Cell). cell_level (shown trace to) (shown trace to slot) to cell place) is

  at_place : (place : ℕ) → first ≤ place → place < 64 → held (place - 1) ≡ in_place (trace slot) to (place - 1)
      → (arrives_by clock pin.delay (to + place - 64) ≡ true) ⊎ (arrives_by clock pin.delay (to + place - 64) ≡ false) → held place ≡ in_place (trace slot) to place
  at_place place late small past (inl a) =
      let b : (nat_le arrival place && ((place - arrival) % clock.period == 0)) ≡ true = sym (arrives place late small) ∙ a in
      let here : held place ≡ moved_on words ticks pin.net (place - pin.delay) = rw b at (holds.from place late small) in
      let there : shown trace to slot place ≡ shown trace to pin.net (place - pin.delay) = rw a at (settled place late small) in
      here ∙ moved-shows pin.net (place - pin.delay) lawful.1 (omega (arith, taken place late small a, lawful.2, late)) ∙ sym there
  at_place place late small past (inr a) =
      let b : (nat_le arrival place && ((place - arrival) % clock.period == 0)) ≡ false = sym (arrives place late small) ∙ a in
      let here : held place ≡ held (place - 1) = rw b at (holds.from place late small) in
      let there : shown trace to slot place ≡ shown trace to slot (place - 1) = rw a at (settled place late small) in
      here ∙ past ∙ sym there

  before : (place : ℕ) → place < first → held place ≡ in_place (trace slot) to place
  before place l = holds.below place l ∙ moved-shows slot place inside l

  next : (place : ℕ) → place < 64 → (first ≤ place → held (place - 1) ≡ in_place (trace slot) to (place - 1)) → (place < first) ⊎ (first ≤ place) → held place ≡ in_place (trace slot) to place
  next place small past (inl l) = before place l
  next place small past (inr l) = at_place place l small (past l) (cases_Bool (arrives_by clock pin.delay (to + place - 64)))

  below : (bound place : ℕ) → place < bound → bound ≤ 64 → held place ≡ in_place (trace slot) to place
  below zero place l fits = absurd (omega arith)
  below (suc bound) place l fits = next place (omega arith) (λ late. below bound (place - 1) (omega arith) (omega arith)) (cases_lt place first)

  pub ahead-shows : (place : ℕ) → place < 64 → held place ≡ in_place (trace slot) to place
  ahead-shows place small = below 64 place small (omega arith)

-- words that moved on hold what the words do that were read
pub moved-held : (words : List Planes) (own input : Word) (slot ticks arrival : ℕ) (clock : Clock) (pin : Pin) (old_own old_input : Word) (held : ℕ → Level) → 1 ≤ ticks → ticks < 64
    → slot < length words → planes_of old_own ≡ get_or words slot (planes_of old_own) → pin.net < length words → planes_of old_input ≡ get_or words pin.net (planes_of old_input)
    → ((i : ℕ) → i < 64 → level_at_place own i ≡ level_at_place old_own (min (i + ticks) 63)) → ((i : ℕ) → i < 64 → level_at_place input i ≡ level_at_place old_input (min (i + ticks) 63))
    → Holds (level_at_place own) (level_at_place input) held pin.delay arrival clock.period (64 - ticks) → HoldsAhead (levels_of words) held ticks arrival slot clock pin
moved-held words own input slot ticks arrival clock pin old_own old_input held some fits inside own_is within input_is own_moves input_moves holds = record {
  below = λ place l. holds.below place l ∙ own_moves place (omega arith) ∙ sym (levels_of-read words slot old_own (min (place + ticks) 63) inside own_is);
  from = λ place late small.
      holds.from place late small
      ∙ ap (λ (level : Level). if nat_le arrival place && ((place - arrival) % clock.period == 0) then level else held (place - 1))
      (input_moves (place - pin.delay) (omega arith) ∙ sym (levels_of-read words pin.net old_input (min (place - pin.delay + ticks) 63) within input_is));
}

-- ---- what is told of one flip-flop

-- samples of a clock arrive in a window from a place on first at a place
abbrev pub ArriveFrom : Clock → ℕ → ℕ → ℕ → ℕ → Type 0
ArriveFrom clock delay to first arrival =
    (place : ℕ) → first ≤ place → place < 64 → arrives_by clock delay (to + place - 64) ≡ (nat_le arrival place && ((place - arrival) % clock.period == 0))

module _ (trace words : ℕ → ℕ → Level) (cells : List Cell) (count from ticks to first : ℕ) (meets : MeetsCells trace (cell_at cells)) (shows : Shows words trace count from)
    (window : IsWindow from ticks to first 0) (clock : Clock) (delay : ℕ) (taken : AreTakenBefore clock delay to first) where
  -- the word of a flip-flop shows what it does
  module _ (slot arrival net : ℕ) (flop : IsFlopAt cells clock delay slot net) (inside : slot < count) (lawful : IsLawful count first (Flop clock (record { net = net; delay = delay })))
      (arrives : ArriveFrom clock delay to first arrival) (held : ℕ → Level) (holds : HoldsAhead words held ticks arrival slot clock (record { net = net; delay = delay })) where
    slot-shows : Shows (λ other. held) (λ other. trace slot) 1 to
    slot-shows other place small below =
        let here : first ≡ 64 - ticks = omega arith in
        ahead-shows trace words cells count from ticks to first meets shows window slot clock (record { net = net; delay = delay }) flop inside lawful arrival arrives taken held (rw here holds) place below

    begins : to + first - 64 ≡ from
    begins = omega arith

    pub slot-told : (word : Word) → ((place : ℕ) → held place ≡ level_at_place word place) → (one : Changed) → one ≡ record { net = slot; word = word } → TellsNet trace from to one
    slot-told word same one is = rw is (levels-tell trace from to (record { net = slot; word = word }) (omega (arith, begins)) (λ tick late below.
        sym (same (tick + 64 - to)) ∙ shown-at (λ other. held) (λ other. trace slot) 1 1 to first [] slot-shows (omega arith) (omega arith) (omega arith) 0 tick (omega arith) (omega (arith, begins, late)) below))

    pub slot-still : IsSteadyFrom held first → IsStill (trace slot) from to
    slot-still steady =
        subst (λ (start : ℕ). IsStill (trace slot) start to) begins
        (steady-still (λ other. held) (λ other. trace slot) 1 1 to first [] slot-shows (omega arith) (omega arith) (omega arith) 0 (omega arith) steady)

  -- where no sample arrives a flip-flop keeps its level
  module _ (slot : ℕ) (flop : IsFlopOf (cell_at cells slot) clock delay) (none : (place : ℕ) → first ≤ place → place < 64 → arrives_by clock delay (to + place - 64) ≡ true → ⊥) where
    none_at : (tick : ℕ) → from ≤ suc tick → suc tick < to → (arrives_by clock delay (suc tick) ≡ true) ⊎ (arrives_by clock delay (suc tick) ≡ false) → arrives_by clock delay (suc tick) ≡ false
    none_at tick late below (inl a) =
        let at : to + (suc tick + 64 - to) - 64 ≡ suc tick = omega arith in
        absurd (none (suc tick + 64 - to) (omega arith) (omega arith) (rw at a))
    none_at tick late below (inr a) = a

    keeps : (cell : Cell) (tick : ℕ) → IsFlopOf cell clock delay → arrives_by clock delay (suc tick) ≡ false → cell_row trace slot (suc tick) cell ≡ trace slot tick
    keeps Told tick flop a = absurd flop
    keeps (Gate kind pins) tick flop a = absurd flop
    keeps (Flop own pin) tick flop a =
        let b : arrives_by own pin.delay (suc tick) ≡ false = rw (flop.0, flop.1) a in
        let past : suc tick - 1 ≡ tick = omega arith in
        rw (b, past) refl

    pub slot-keeps : IsStill (trace slot) from to
    slot-keeps = ticks-still (trace slot) from to (omega (arith, begins)) (λ tick late below.
        sym (meets slot (suc tick) (flop-made (cell_at cells slot) clock delay flop)
        ∙ keeps (cell_at cells slot) tick flop (none_at tick late below (cases_Bool (arrives_by clock delay (suc tick))))))

-- ---- what is told of some

module _ (trace : ℕ → ℕ → Level) (from upto : ℕ) where
  pub adds-none : (told : List Changed) → AddsSlots trace [] from upto told told
  adds-none told = record { kept = λ net h. h; right = λ one among. inl among; others = λ slot among. absurd (omega (arith, among.1)) }

  pub adds-all_still : (slots : List ℕ) (told : List Changed) → ((slot : ℕ) → Contains slots slot → IsStill (trace slot) from upto) → AddsSlots trace slots from upto told told
  adds-all_still slots told still = record { kept = λ net h. h; right = λ one among. inl among; others = λ slot among none. still slot among }

  pub adds-still : (slots : List ℕ) (k d : ℕ) (old new : List Changed) → k < length slots → IsStill (trace (get_or slots k d)) from upto → AddsSlots trace (take k slots) from upto old new
      → AddsSlots trace (take (k + 1) slots) from upto old new
  adds-still slots k d old new small still adds = record {
    kept = adds.kept;
    right = λ one among. right one (adds.right one among);
    others = λ slot among none. others slot none (taken-cases slots k d small slot among);
  }
    where
      right : (one : Changed) → Contains old one ⊎ (Contains (take k slots) one.net × TellsNet trace from upto one) → Contains old one ⊎ (Contains (take (k + 1) slots) one.net × TellsNet trace from upto one)
      right one (inl h) = inl h
      right one (inr h) = inr (taken-before slots k d small one.net h.0, h.1)

      others : (slot : ℕ) → is_among slot new ≡ false → Contains (take k slots) slot ⊎ (get_or slots k d ≡ slot) → IsStill (trace slot) from upto
      others slot none (inl early) = adds.others slot early none
      others slot none (inr e) = subst (λ (n : ℕ). IsStill (trace n) from upto) e still

  pub adds-one : (slots : List ℕ) (k d : ℕ) (old new : List Changed) (one : Changed) → k < length slots → one.net ≡ get_or slots k d → TellsNet trace from upto one
      → AddsSlots trace (take k slots) from upto old new → AddsSlots trace (take (k + 1) slots) from upto old (new ++ one ∷ [])
  adds-one slots k d old new one small is tells adds = record {
    kept = λ net none. adds.kept net (parts net none).0;
    right = λ other among. right other (Contains-push_cases new one other among);
    others = λ slot among none. others slot none (taken-cases slots k d small slot among);
  }
    where
      parts : (net : ℕ) → is_among net (new ++ one ∷ []) ≡ false → (is_among net new ≡ false) × ((one.net == net) ≡ false)
      parts net none =
          let both = or_parts (is_among net new) (is_among net (one ∷ [])) (sym (list_any-append (λ (c : Changed). c.net == net) new (one ∷ [])) ∙ none) in
          (both.0, (or_parts (one.net == net) false both.1).0)

      early : (other : Changed) → Contains old other ⊎ (Contains (take k slots) other.net × TellsNet trace from upto other) → Contains old other ⊎ (Contains (take (k + 1) slots) other.net × TellsNet trace from upto other)
      early other (inl h) = inl h
      early other (inr h) = inr (taken-before slots k d small other.net h.0, h.1)

      right : (other : Changed) → Contains new other ⊎ (one ≡ other) → Contains old other ⊎ (Contains (take (k + 1) slots) other.net × TellsNet trace from upto other)
      right other (inl h) = early other (adds.right other h)
      right other (inr e) =
          inr (subst (λ (c : Changed). Contains (take (k + 1) slots) c.net × TellsNet trace from upto c) e
          (subst (λ (n : ℕ). Contains (take (k + 1) slots) n) (sym is) (taken-last slots k d small), tells))

      others : (slot : ℕ) → is_among slot (new ++ one ∷ []) ≡ false → Contains (take k slots) slot ⊎ (get_or slots k d ≡ slot) → IsStill (trace slot) from upto
      others slot none (inl h) = adds.others slot h (parts slot none).0
      others slot none (inr e) = absurd (false≢true (sym (parts slot none).1 ∙ eq-eqb one.net slot (omega (arith, is, e))))

  pub adds-both : (first second : List ℕ) (old middle new : List Changed) → AddsSlots trace first from upto old middle → AddsSlots trace second from upto middle new
      → AddsSlots trace (first ++ second) from upto old new
  adds-both first second old middle new early late = record {
    kept = λ net none. early.kept net (late.kept net none);
    right = λ one among. right one (late.right one among);
    others = λ slot among none. others slot none (Contains-append_cases first second slot among);
  }
    where
      before : (one : Changed) → Contains old one ⊎ (Contains first one.net × TellsNet trace from upto one) → Contains old one ⊎ (Contains (first ++ second) one.net × TellsNet trace from upto one)
      before one (inl h) = inl h
      before one (inr h) = inr (Contains-append_left first second one.net h.0, h.1)

      right : (one : Changed) → Contains middle one ⊎ (Contains second one.net × TellsNet trace from upto one) → Contains old one ⊎ (Contains (first ++ second) one.net × TellsNet trace from upto one)
      right one (inl h) = before one (early.right one h)
      right one (inr h) = inr (Contains-append_right first second one.net h.0, h.1)

      others : (slot : ℕ) → is_among slot new ≡ false → Contains first slot ⊎ Contains second slot → IsStill (trace slot) from upto
      others slot none (inl h) = early.others slot h (late.kept slot none)
      others slot none (inr h) = late.others slot h none

-- ---- the slots of groups

pub slots_of-push : (groups : List Group) (group : Group) → slots_of (groups ++ group ∷ []) ≡ slots_of groups ++ group.flops.items
slots_of-push [] group = append-nil group.flops.items
slots_of-push (first ∷ groups) group =
    ap (λ (rest : List ℕ). first.flops.items ++ rest) (slots_of-push groups group) ∙ sym (append_assoc first.flops.items (slots_of groups) group.flops.items)

pub slots_of-more : (groups : List Group) (k : ℕ) (d : Group) → k < length groups → slots_of (take (k + 1) groups) ≡ slots_of (take k groups) ++ (get_or groups k d).flops.items
slots_of-more groups k d small = ap slots_of (take_more groups k d small) ∙ slots_of-push (take k groups) (get_or groups k d)
