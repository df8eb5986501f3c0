-- Words that show a trace which the cells allow are settled.
use Rattle.std.proofs.Common.{◌≡◌, ℕ, ◌+◌, ◌-◌, ◌<◌, ◌≤◌, ◌⊎◌, inl, inr, true, false, ◌==◌, List, [], ◌∷◌, length, map, refl, sym, ap, ap₂, ◌∙◌, arith}
use Rattle.std.proofs.lemmas.Bool.{cases_lt, cases_Bool, eq-eqb, or_left, or_right, false≢true}
use Rattle.std.proofs.lemmas.List.{get_or_past}
use Rattle.std.proofs.lemmas.List.Elements.{All-weaker, recursion_from_All}
use Rattle.std.specs.List.{AllByRecursion, list_any}
use Rattle.cmb_wave.specs.declared.level.Level.{Level}
use Rattle.cmb_design_model.specs.declared.rows.Clock.{Clock}
use Rattle.cmb_design_model.specs.Gate.{gate}
use Rattle.cmb_engine.specs.Rows.{arrives_by}
use Rattle.cmb_engine.specs.Inner.Cells.{Cell, Told, Gate, Flop, is_made, seen, cell_level, EachSeen, IsSettled, IsLawful, cell_at, pins_of}
use Rattle.cmb_engine.specs.Inner.Circuits.{seen_at, cell_row, MeetsCells}
use Rattle.cmb_engine.specs.Inner.Windows.{in_place}
use Rattle.cmb_engine.specs.declared.cell.Pin.{Pin}
use Rattle.cmb_engine.proofs.ArrivalFacts.{arrives_parts}
use Rattle.cmb_engine.proofs.TruthFacts.{in_place-tick, in_place-before}

-- ---- cells and their pins

pub all-both : (P Q R : Pin → Type 0) (pins : List Pin) → ((pin : Pin) → P pin → Q pin → R pin) → AllByRecursion P pins → AllByRecursion Q pins → AllByRecursion R pins
all-both P Q R [] f p q = tt
all-both P Q R (pin ∷ pins) f p q = (f pin p.0 q.0, all-both P Q R pins f p.1 q.1)

pub each-pins : (P : Pin → Type 0) (to place : ℕ) (cell : Cell) → AllByRecursion P (pins_of cell) → EachSeen P to cell place
each-pins P to place Told h = tt
each-pins P to place (Gate kind pins) h = h
each-pins P to place (Flop clock pin) h = λ a. h.0

pub lawful-pins : (nets most : ℕ) (cell : Cell) → IsLawful nets most cell → AllByRecursion (λ pin. (pin.net < nets) × (pin.delay ≤ most)) (pins_of cell)
lawful-pins nets most Told h = tt
lawful-pins nets most (Gate kind pins) h =
    all-both (λ pin. pin.net < nets) (λ pin. pin.delay ≤ most) (λ pin. (pin.net < nets) × (pin.delay ≤ most)) pins (λ pin n d. (n, d))
    (recursion_from_All (λ pin. pin.net < nets) pins h.1) (recursion_from_All (λ pin. pin.delay ≤ most) pins h.2)
lawful-pins nets most (Flop clock pin) h = ((h.1, h.2), tt)

pub lawful-later : (nets most first : ℕ) (cell : Cell) → most ≤ first → IsLawful nets most cell → IsLawful nets first cell
lawful-later nets most first Told more h = tt
lawful-later nets most first (Gate kind pins) more h =
    (h.0, h.1, All-weaker (λ (pin : Pin). pin.delay ≤ most) (λ (pin : Pin). pin.delay ≤ first) (λ pin l. omega arith) pins h.2)
lawful-later nets most first (Flop clock pin) more h = (h.0, h.1, omega (arith, h.2))

-- what is so of each slot that some of the pins read
pub pins-read : (P : ℕ → Type 0) (pins : List Pin) → ((slot : ℕ) → list_any (λ pin. pin.net == slot) pins ≡ true → P slot) → AllByRecursion (λ pin. P pin.net) pins
pins-read P [] h = tt
pins-read P (pin ∷ pins) h =
    (h pin.net (or_left (pin.net == pin.net) _ (eq-eqb pin.net pin.net refl)), pins-read P pins (λ slot a. h slot (or_right (pin.net == slot) _ a)))

pub made-inside : (cells : List Cell) (slot : ℕ) → is_made (cell_at cells slot) ≡ true → slot < length cells
made-inside cells slot made = go (cases_lt slot (length cells))
  where
    go : (slot < length cells) ⊎ (length cells ≤ slot) → slot < length cells
    go (inl l) = l
    go (inr l) = absurd (false≢true (sym (ap is_made (get_or_past cells slot Told l)) ∙ made))

-- ---- the words that show a trace

abbrev pub shown : (ℕ → ℕ → Level) → ℕ → ℕ → ℕ → Level
shown trace to slot place = in_place (trace slot) to place

module _ (trace : ℕ → ℕ → Level) (to : ℕ) where
  pub pins-shown : (place : ℕ) (pins : List Pin) → 64 ≤ to + place → AllByRecursion (λ pin. pin.delay ≤ place) pins
      → map (seen (shown trace to) place) pins ≡ map (seen_at trace (to + place - 64)) pins
  pins-shown place [] late within = refl
  pins-shown place (pin ∷ pins) late within =
      ap₂ (λ level levels. level ∷ levels) (in_place-before (trace pin.net) to place pin.delay late within.0) (pins-shown place pins late within.1)

  flop-shown : (slot place : ℕ) (clock : Clock) (pin : Pin) → 1 ≤ place → 65 ≤ to + place → pin.delay ≤ place
      → (arrives_by clock pin.delay (to + place - 64) ≡ true) ⊎ (arrives_by clock pin.delay (to + place - 64) ≡ false)
      → cell_row trace slot (to + place - 64) (Flop clock pin) ≡ cell_level (shown trace to) (shown trace to slot) to (Flop clock pin) place
  flop-shown slot place clock pin begun late within (inl a) =
      let parts = arrives_parts clock pin.delay (to + place - 64) a in
      let at : to + (place - pin.delay) - 64 ≡ to + place - 64 - pin.delay = omega arith in
      rw a (sym (in_place-tick (trace pin.net) to (place - pin.delay) (omega arith) ∙ ap (trace pin.net) at))
  flop-shown slot place clock pin begun late within (inr a) =
      let at : to + (place - 1) - 64 ≡ to + place - 64 - 1 = omega arith in
      rw a (sym (in_place-tick (trace slot) to (place - 1) (omega arith) ∙ ap (trace slot) at))

  row-shown : (slot place : ℕ) (cell : Cell) → is_made cell ≡ true → 1 ≤ place → 65 ≤ to + place → AllByRecursion (λ pin. pin.delay ≤ place) (pins_of cell)
      → cell_row trace slot (to + place - 64) cell ≡ cell_level (shown trace to) (shown trace to slot) to cell place
  row-shown slot place Told made begun late within = absurd (false≢true made)
  row-shown slot place (Gate kind pins) made begun late within = ap (gate kind) (sym (pins-shown place pins (omega arith) within))
  row-shown slot place (Flop clock pin) made begun late within = flop-shown slot place clock pin begun late within.0 (cases_Bool (arrives_by clock pin.delay (to + place - 64)))

  -- a trace is settled in every window, where no pin looks back beyond the words
  pub shown-settled : (cells : ℕ → Cell) (nets first slot : ℕ) → MeetsCells trace cells → 1 ≤ first → 65 ≤ to + first → IsLawful nets first (cells slot) → is_made (cells slot) ≡ true
      → IsSettled (shown trace to) to first slot (cells slot)
  shown-settled cells nets first slot meets begun late lawful made place from small =
      in_place-tick (trace slot) to place (omega arith)
      ∙ meets slot (to + place - 64) made
      ∙ row-shown slot place (cells slot) made (omega arith) (omega arith)
      (all-both (λ pin. (pin.net < nets) × (pin.delay ≤ first)) (λ pin. (pin.net < nets) × (pin.delay ≤ first)) (λ pin. pin.delay ≤ place) (pins_of (cells slot))
      (λ pin p q. omega (arith, p.1)) (lawful-pins nets first (cells slot) lawful) (lawful-pins nets first (cells slot) lawful))
