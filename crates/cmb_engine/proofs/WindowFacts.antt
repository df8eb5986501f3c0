-- Why words show a trace at the end of a window that showed it at its begin.
use Rattle.std.proofs.Common.{◌≡◌, ℕ, ◌+◌, ◌-◌, ◌<◌, ◌≤◌, ◌⊎◌, inl, inr, min, true, false, List, length, get_or, refl, sym, ap, subst, ◌∙◌, arith}
use Rattle.std.specs.List.{AllByRecursion}
use Rattle.std.proofs.lemmas.Bool.{cases_lt, cases_Bool, false≢true}
use Rattle.cmb_wave.specs.declared.level.Level.{Level}
use Rattle.cmb_design_model.specs.declared.rows.Clock.{Clock}
use Rattle.cmb_design_model.specs.Gate.{gate}
use Rattle.cmb_design_model.specs.Value.{delayed}
use Rattle.cmb_engine.specs.Inner.Bits.{has}
use Rattle.cmb_engine.specs.Inner.Cells.{Cell, Nodes, Told, Gate, Flop, is_gate, is_made, seen, AreClosed, IsSteady, IsSteadyFrom, IsReadable, IsReady, IsTrueBelow, IsWired, AreMarked, AreReaders, AreSettled, HaveReaders, KeepsTold, cell_at, pins_of, readers_at, reads}
use Rattle.cmb_engine.specs.Inner.Circuits.{cell_row, AreFlops, Arrives, AreQuiet, IsFlopOf, IsInGroup, IsMarkedOrRests, IsWiring, MeetsCells, Shows}
use Rattle.cmb_engine.specs.Inner.Orders.{Order, is_marked, rank_in}
use Rattle.cmb_engine.specs.Rows.{arrives_by}
use Rattle.cmb_engine.specs.Inner.Windows.{in_place}
use Rattle.cmb_engine.specs.declared.cell.Pin.{Pin}
use Rattle.cmb_engine.specs.declared.group.Group.{Group}
use Rattle.cmb_engine.proofs.CellFacts.{all-weaker, seen-same, settled-steady}
use Rattle.cmb_engine.proofs.TraceFacts.{all-both, each-pins, lawful-pins, lawful-later, pins-read, made-inside, shown, pins-shown, shown-settled}
use Rattle.cmb_engine.proofs.TruthFacts.{in_place-tick}
use Rattle.cmb_engine.proofs.VisitFacts.{reader-marked, readers-at}

-- a word that is steady has one level from the place before on
steady-at : (word : ℕ → Level) (first place : ℕ) → IsSteadyFrom word first → first ≤ place + 1 → place < 64 → word place ≡ word (first - 1)
steady-at word first place steady late small = go (cases_lt place first)
  where
    go : (place < first) ⊎ (first ≤ place) → word place ≡ word (first - 1)
    go (inl l) = let e : place ≡ first - 1 = omega arith in ap word e
    go (inr l) = steady place l small

-- what is marked stays so
pub marked-kept : (P : Type 0) (old new numbers : List ℕ) → ((m : ℕ) → has old m ≡ true → has new m ≡ true) → P ⊎ AreMarked (has old) numbers → P ⊎ AreMarked (has new) numbers
marked-kept P old new numbers kept (inl p) = inl p
marked-kept P old new numbers kept (inr marked) = inr (λ k small. kept (get_or numbers k 0) (marked k small))

-- a window goes so many ticks on, from one tick to another, and no pin looks back beyond its words
pub record IsWindow (from ticks to first most : ℕ) : Type 0 where
  pub ends : from + ticks ≡ to
  pub places : first + ticks ≡ 64
  pub begun : 1 ≤ from
  pub some : 1 ≤ ticks
  pub fits : most < first

-- what settles the words of a window needs
pub window-wired : (cells : List Cell) (order : Order) (nodes : Nodes) (gate_lists flop_lists : List (List ℕ)) (flops : List Group) (most : ℕ) → IsWiring cells order nodes gate_lists flop_lists flops most
    → (count first : ℕ) → length cells ≡ count → most ≤ first → IsWired cells order nodes gate_lists flop_lists count first
window-wired cells order nodes gate_lists flop_lists flops most wiring count first nets later =
    subst (λ (n : ℕ). IsWired cells order nodes gate_lists flop_lists n first) nets (record {
      nets = refl;
      ranked = wiring.ranked;
      ordered = wiring.ordered;
      slots_in_order = wiring.slots_in_order;
      in_order = wiring.in_order;
      gates = wiring.gates;
      flops = wiring.samplers;
      lawful = λ slot inside. lawful-later (length cells) most first (cell_at cells slot) later (wiring.lawful slot inside);
    })

-- each slot has a list of the gates that read it
pub window-lists : (cells : List Cell) (order : Order) (nodes : Nodes) (gate_lists flop_lists : List (List ℕ)) (flops : List Group) (most : ℕ) → IsWiring cells order nodes gate_lists flop_lists flops most
    → (count : ℕ) → length cells ≡ count → HaveReaders order gate_lists count
window-lists cells order nodes gate_lists flop_lists flops most wiring count nets slot inside =
    omega (arith, (wiring.ordered.stands slot (omega (arith, inside, nets, wiring.ranked))).below, wiring.gates.count)

-- a window in which no sample arrives that is taken in it is closed
pub window-closed : (cells : List Cell) (flops : List Group) → AreFlops cells flops → (to first : ℕ)
    → ((clock : Clock) (delay slot place : ℕ) → IsInGroup clock delay slot flops → first ≤ place → place < 64 → arrives_by clock delay (to + place - 64) ≡ true → place < first + delay)
    → AreClosed (cell_at cells) to first
window-closed cells flops are to first closed slot clock pin is place from small arrives =
    closed clock pin.delay slot place (are.all slot clock pin.delay (subst (λ (cell : Cell). IsFlopOf cell clock pin.delay) (sym is) (refl, refl))) from small arrives

-- ---- words that moved on

module _ (trace : ℕ → ℕ → Level) (from ticks to first most count : ℕ) (window : IsWindow from ticks to first most) (old moved : ℕ → ℕ → Level)
    (shows : Shows old trace count from) (moves : (slot place : ℕ) → place < 64 → moved slot place ≡ old slot (min (place + ticks) 63)) where
  pub moved-below : (slot place : ℕ) → slot < count → place < first → moved slot place ≡ in_place (trace slot) to place
  moved-below slot place inside below =
      let at : min (place + ticks) 63 ≡ place + ticks = omega arith in
      let tick : from + (place + ticks) ≡ to + place = omega arith in
      moves slot place (omega arith) ∙ ap (old slot) at ∙ shows slot (place + ticks) inside (omega arith) ∙ ap (delayed (trace slot) 64) tick

  pub moved-held : (slot place : ℕ) → slot < count → first ≤ place → place < 64 → moved slot place ≡ trace slot (from - 1)
  moved-held slot place inside late small =
      let at : min (place + ticks) 63 ≡ 63 = omega arith in
      let tick : from + 63 - 64 ≡ from - 1 = omega arith in
      moves slot place small ∙ ap (old slot) at ∙ shows slot 63 inside (omega arith) ∙ in_place-tick (trace slot) from 63 (omega arith) ∙ ap (trace slot) tick

  pub moved-steady : (slot : ℕ) → IsSteadyFrom (moved slot) first
  moved-steady slot place late small =
      let at : min (place + ticks) 63 ≡ min (first - 1 + ticks) 63 = omega arith in
      moves slot place small ∙ ap (old slot) at ∙ sym (moves slot (first - 1) (omega arith))

-- ---- before they are settled

-- what stands before words are settled: those that moved on, with what was told and given written into them, and marks of all that
-- read something new
pub record IsBegun (trace : ℕ → ℕ → Level) (cells : List Cell) (order : Order) (readers : ℕ → List ℕ) (most : ℕ) (moved told : ℕ → ℕ → Level) (live marks : List ℕ) (to first : ℕ) : Type 0 where
  pub quiet : AreQuiet moved (has live) (length cells)
  pub news : (slot : ℕ) → slot < length cells → has live slot ≡ true → IsSteadyFrom (moved slot) (first - most) ⊎ AreMarked (has marks) (readers slot)
  pub kept : (slot : ℕ) → slot < length cells → (AreMarked (has marks) (readers slot) → ⊥) → (place : ℕ) → place < 64 → told slot place ≡ moved slot place
  pub made : (slot place : ℕ) → is_made (cell_at cells slot) ≡ true → place < 64 → told slot place ≡ moved slot place
  pub told_true : (slot place : ℕ) → slot < length cells → is_made (cell_at cells slot) ≡ false → place < 64 → told slot place ≡ shown trace to slot place
  pub arrivals : (slot place : ℕ) → first ≤ place → place < 64 → Arrives (cell_at cells slot) (to + place - 64) → IsMarkedOrRests (is_marked order marks) told first cells slot

module _ (trace : ℕ → ℕ → Level) (cells : List Cell) (order : Order) (nodes : Nodes) (gate_lists flop_lists : List (List ℕ)) (flops : List Group) (most : ℕ)
    (wiring : IsWiring cells order nodes gate_lists flop_lists flops most)
    (meets : MeetsCells trace (cell_at cells)) (from ticks to first : ℕ) (window : IsWindow from ticks to first most) (old moved told : ℕ → ℕ → Level)
    (shows : Shows old trace (length cells) from) (moves : (slot place : ℕ) → place < 64 → moved slot place ≡ old slot (min (place + ticks) 63))
    (live marks : List ℕ) (begun : IsBegun trace cells order (readers_at order gate_lists) most moved told live marks to first) where
  -- a slot of which nothing is new: nothing is told or given of it, and it repeats its level as far back as a pin looks
  abbrev IsCalm : ℕ → Type 0
  IsCalm slot = ((place : ℕ) → place < 64 → told slot place ≡ moved slot place) × IsSteadyFrom (moved slot) (first - most)

  quiet-steady : (slot : ℕ) → slot < length cells → has live slot ≡ false → IsSteadyFrom (moved slot) (first - most)
  quiet-steady slot inside none place late small = begun.quiet slot place inside none small ∙ sym (begun.quiet slot (first - most - 1) inside none (omega arith))

  -- so is what a gate reads that isn't marked
  calm : (reader slot : ℕ) → is_gate (cell_at cells reader) ≡ true → is_marked order marks reader ≡ false → reads (cell_at cells reader) slot ≡ true → slot < length cells → IsCalm slot
  calm reader slot gate none read inside = (
    begun.kept slot inside marked,
    go (cases_Bool (has live slot)),
  )
    where
      readers : AreReaders is_gate cells (rank_in order) slot (readers_at order gate_lists slot)
      readers = readers-at is_gate cells order gate_lists wiring.gates slot (wiring.ordered.stands slot (omega (arith, inside, wiring.ranked)))

      marked : AreMarked (has marks) (readers_at order gate_lists slot) → ⊥
      marked h = reader-marked is_gate cells (rank_in order) slot (readers_at order gate_lists slot) marks readers h reader none gate read

      news : IsSteadyFrom (moved slot) (first - most) ⊎ AreMarked (has marks) (readers_at order gate_lists slot) → IsSteadyFrom (moved slot) (first - most)
      news (inl steady) = steady
      news (inr h) = absurd (marked h)

      go : (has live slot ≡ true) ⊎ (has live slot ≡ false) → IsSteadyFrom (moved slot) (first - most)
      go (inl is) = news (begun.news slot inside is)
      go (inr isnt) = quiet-steady slot inside isnt

  -- what a pin is that reads such a slot
  abbrev IsCalmPin : Pin → Type 0
  IsCalmPin pin = IsCalm pin.net × (pin.net < length cells) × (pin.delay ≤ most)

  pins-calm : (slot : ℕ) → is_made (cell_at cells slot) ≡ true → is_marked order marks slot ≡ false → is_gate (cell_at cells slot) ≡ true → AllByRecursion IsCalmPin (pins_of (cell_at cells slot))
  pins-calm slot made none gate =
      all-both (λ pin. pin.net < length cells → IsCalm pin.net) (λ pin. (pin.net < length cells) × (pin.delay ≤ most)) IsCalmPin (pins_of (cell_at cells slot))
      (λ pin so l. (so l.0, l.0, l.1))
      (pins-read (λ net. net < length cells → IsCalm net) (pins_of (cell_at cells slot)) (λ net read inside. calm slot net gate none read inside))
      (lawful-pins (length cells) most (cell_at cells slot) (wiring.lawful slot (made-inside cells slot made)))

  calm-seen : (pin : Pin) → IsCalmPin pin → (place : ℕ) → first ≤ place → place < 64 → seen told place pin ≡ seen told (first - 1) pin
  calm-seen pin so place late small =
      so.0.0 (place - pin.delay) (omega arith)
      ∙ steady-at (moved pin.net) (first - most) (place - pin.delay) so.0.1 (omega (arith, so.2)) (omega arith)
      ∙ sym (steady-at (moved pin.net) (first - most) (first - 1 - pin.delay) so.0.1 (omega (arith, so.2)) (omega arith))
      ∙ sym (so.0.0 (first - 1 - pin.delay) (omega arith))

  calm-shown : (pin : Pin) → IsCalmPin pin → seen told (first - 1) pin ≡ seen (shown trace to) (first - 1) pin
  calm-shown pin so =
      so.0.0 (first - 1 - pin.delay) (omega arith) ∙ moved-below trace from ticks to first most (length cells) window old moved shows moves pin.net (first - 1 - pin.delay) so.1 (omega arith)

  steady-cell : (slot : ℕ) (cell : Cell) → told slot (first - 1) ≡ cell_row trace slot (to + (first - 1) - 64) cell → (is_gate cell ≡ true → AllByRecursion IsCalmPin (pins_of cell))
      → ((place : ℕ) → first ≤ place → place < 64 → Arrives cell (to + place - 64) → IsSteady told to first slot cell) → IsSteady told to first slot cell
  steady-cell slot Told row calm none = tt
  steady-cell slot (Gate kind pins) row calm none = (
    row
        ∙ ap (gate kind) (sym (pins-shown trace to (first - 1) pins (omega arith) (all-weaker IsCalmPin (λ pin. pin.delay ≤ first - 1) pins (λ pin h. omega (arith, h.2)) (calm refl))))
        ∙ ap (gate kind) (sym (seen-same told (shown trace to) (first - 1) pins (all-weaker IsCalmPin (λ pin. seen told (first - 1) pin ≡ seen (shown trace to) (first - 1) pin) pins calm-shown (calm refl)))),
    λ place late small. all-weaker IsCalmPin (λ pin. seen told place pin ≡ seen told (first - 1) pin) pins (λ pin h. calm-seen pin h place late small) (calm refl),
  )
  steady-cell slot (Flop clock pin) row calm none = λ place late small a. none place late small a place late small a

  made-below : (slot place : ℕ) → is_made (cell_at cells slot) ≡ true → place < first → told slot place ≡ shown trace to slot place
  made-below slot place made below =
      begun.made slot place made (omega arith)
      ∙ moved-below trace from ticks to first most (length cells) window old moved shows moves slot place (made-inside cells slot made) below

  -- the samples of a slot that isn't marked bring the level that it has
  rests : (slot : ℕ) → is_marked order marks slot ≡ false → IsMarkedOrRests (is_marked order marks) told first cells slot → IsSteady told to first slot (cell_at cells slot)
  rests slot none (inl marked) = absurd (false≢true (sym none ∙ marked))
  rests slot none (inr steady) = steady to

  -- what isn't marked is settled
  begun-settled : AreSettled told (is_marked order marks) (cell_at cells) to first
  begun-settled slot made none =
      settled-steady told to first slot (cell_at cells slot) made (omega arith)
      (λ place late small.
      begun.made slot place made small
      ∙ moved-steady trace from ticks to first most (length cells) window old moved shows moves slot place late small
      ∙ sym (begun.made slot (first - 1) made (omega arith)))
      (steady-cell slot (cell_at cells slot)
      (made-below slot (first - 1) made (omega arith) ∙ in_place-tick (trace slot) to (first - 1) (omega arith) ∙ meets slot (to + (first - 1) - 64) made)
      (pins-calm slot made none)
      (λ place late small a. rests slot none (begun.arrivals slot place late small a)))

  begun-ready : IsReady told (shown trace to) (cell_at cells) to first
  begun-ready = record {
    later = omega arith;
    true_settled = λ slot made. shown-settled trace to (cell_at cells) (length cells) first slot meets (omega arith) (omega arith)
        (lawful-later (length cells) most first (cell_at cells slot) (omega arith) (wiring.lawful slot (made-inside cells slot made))) made;
    readable = λ slot place made late small.
        each-pins (IsReadable told (shown trace to) (cell_at cells) place) to place (cell_at cells slot)
        (all-both (λ pin. is_made (cell_at cells pin.net) ≡ true → 1 ≤ pin.delay) (λ pin. (pin.net < length cells) × (pin.delay ≤ most)) (IsReadable told (shown trace to) (cell_at cells) place)
        (pins_of (cell_at cells slot))
        (λ pin later inside. (later, λ isnt. begun.told_true pin.net (place - pin.delay) inside.0 isnt (omega arith)))
        (wiring.later slot)
        (lawful-pins (length cells) most (cell_at cells slot) (wiring.lawful slot (made-inside cells slot made))));
  }

  -- what settles them shows the trace
  pub window-shows : (new : ℕ → ℕ → Level) → KeepsTold told new (cell_at cells)
      → ((truth : ℕ → ℕ → Level) → IsReady told truth (cell_at cells) to first → AreSettled told (is_marked order marks) (cell_at cells) to first → IsTrueBelow told truth (cell_at cells) first
      → IsTrueBelow new truth (cell_at cells) 64)
      → Shows new trace (length cells) to
  window-shows new kept exact slot place inside small = go (cases_Bool (is_made (cell_at cells slot)))
    where
      go : (is_made (cell_at cells slot) ≡ true) ⊎ (is_made (cell_at cells slot) ≡ false) → new slot place ≡ in_place (trace slot) to place
      go (inl made) = exact (shown trace to) begun-ready begun-settled made-below slot place made small
      go (inr isnt) = kept slot place isnt ∙ begun.told_true slot place inside isnt small
