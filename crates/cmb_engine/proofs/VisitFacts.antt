-- What a visit of a net leaves.
use Rattle.std.proofs.Common.{◌≡◌, ◌≢◌, ℕ, ◌+◌, ◌-◌, ◌<◌, ◌≤◌, ◌⊎◌, inl, inr, Bool, true, false, ◌==◌, List, [], ◌∷◌, length, get_or, refl, sym, ap, subst, ◌∙◌, arith}
use Rattle.std.proofs.lemmas.Bool.{eq-eqb, cases_eq, cases_lt, cases_Bool, false≢true, or_left, or_right}
use Rattle.std.specs.List.{AllByRecursion, list_any}
use Rattle.cmb_wave.specs.declared.level.Level.{Level}
use Rattle.cmb_design_model.specs.declared.rows.Clock.{Clock}
use Rattle.cmb_engine.specs.Inner.Bits.{has}
use Rattle.cmb_engine.specs.Rows.{arrives_by}
use Rattle.cmb_engine.specs.Inner.Cells.{Cell, Told, Gate, Flop, is_made, seen, cell_level, EachSeen, IsMade, IsSettled, AreFanout, AreReaders, Relies, cell_at, readers_at, reads}
use Rattle.cmb_engine.specs.Inner.Orders.{Order, IsPlaced, rank_in}
use Rattle.cmb_engine.specs.declared.cell.Pin.{Pin}
use Rattle.cmb_engine.proofs.CellFacts.{settled-stays, settled-made}

-- a word that has the levels of one that was made is made
pub made-same : (f : ℕ → ℕ → Level) (own other : ℕ → Level) (to first : ℕ) (cell : Cell) → 1 ≤ first → ((place : ℕ) → place < 64 → own place ≡ other place)
    → IsMade f own to first cell → IsMade f other to first cell
made-same f own other to first Told begun same made place from small = refl
made-same f own other to first (Gate kind pins) begun same made place from small = sym (same place small) ∙ made place from small
made-same f own other to first (Flop clock pin) begun same made place from small =
    sym (same place small) ∙ made place from small ∙ go (cases_Bool (arrives_by clock pin.delay (to + place - 64)))
  where
    go : (arrives_by clock pin.delay (to + place - 64) ≡ true) ⊎ (arrives_by clock pin.delay (to + place - 64) ≡ false)
        → cell_level f own to (Flop clock pin) place ≡ cell_level f other to (Flop clock pin) place
    go (inl a) = rw a refl
    go (inr a) = rw a (same (place - 1) (omega arith))

-- two words that are the same below a place and from it on
pub same-both : (own other : ℕ → Level) (first : ℕ) → ((place : ℕ) → place < first → own place ≡ other place) → ((place : ℕ) → first ≤ place → place < 64 → own place ≡ other place)
    → (place : ℕ) → place < 64 → own place ≡ other place
same-both own other first below from place small = go (cases_lt place first)
  where
    go : (place < first) ⊎ (first ≤ place) → own place ≡ other place
    go (inl l) = below place l
    go (inr l) = from place l small

-- what isn't in a set that has all that it had wasn't in it before
pub kept-false : (old new : List ℕ) (m : ℕ) → (has old m ≡ true → has new m ≡ true) → has new m ≡ false → has old m ≡ false
kept-false old new m kept none = go (cases_Bool (has old m))
  where
    go : (has old m ≡ true) ⊎ (has old m ≡ false) → has old m ≡ false
    go (inl a) = absurd (false≢true (sym none ∙ kept a))
    go (inr a) = a

-- what reads a slot stands in the list of its rank
pub readers-at : (is_such : Cell → Bool) (cells : List Cell) (order : Order) (lists : List (List ℕ)) → AreFanout is_such cells order lists → (slot : ℕ) → IsPlaced order slot
    → AreReaders is_such cells (rank_in order) slot (readers_at order lists slot)
readers-at is_such cells order lists fanout slot placed =
    subst (λ (n : ℕ). AreReaders is_such cells (rank_in order) n (readers_at order lists slot)) placed.stands (fanout.readers_of (rank_in order slot) placed.below)

-- a reader is marked where all readers are
pub reader-marked : (is_such : Cell → Bool) (cells : List Cell) (rank : ℕ → ℕ) (slot : ℕ) (readers marks : List ℕ) → AreReaders is_such cells rank slot readers
    → ((k : ℕ) → k < length readers → has marks (get_or readers k 0) ≡ true) → (m : ℕ) → has marks (rank m) ≡ false
    → is_such (cell_at cells m) ≡ true → reads (cell_at cells m) slot ≡ true → ⊥
reader-marked is_such cells rank slot readers marks are marked m none such read =
    let among = are m such read in
    false≢true (sym none ∙ ap (has marks) (sym among.2) ∙ marked among.0 among.1)

-- ---- one word is another one from a place on

module _ (f g : ℕ → ℕ → Level) (net to first : ℕ) (begun : 1 ≤ first) (others : (m place : ℕ) → m ≢ net → g m place ≡ f m place) (past : (place : ℕ) → place < first → g net place ≡ f net place) where
  pin-agrees : (place : ℕ) (pin : Pin) → (pin.net ≡ net → g net (place - pin.delay) ≡ f net (place - pin.delay)) → seen f place pin ≡ seen g place pin
  pin-agrees place pin here = go (cases_eq pin.net net)
    where
      go : (pin.net ≡ net) ⊎ (pin.net ≡ net → ⊥) → seen f place pin ≡ seen g place pin
      go (inl e) = ap (λ n. f n (place - pin.delay)) e ∙ sym (here e) ∙ ap (λ n. g n (place - pin.delay)) (sym e)
      go (inr other) = sym (others pin.net (place - pin.delay) other)

  pins-agree : (place : ℕ) → place < 64 → (pins : List Pin) → (list_any (λ pin. pin.net == net) pins ≡ true → (q : ℕ) → q < 64 → g net q ≡ f net q)
      → AllByRecursion (λ pin. seen f place pin ≡ seen g place pin) pins
  pins-agree place small [] news = tt
  pins-agree place small (pin ∷ pins) news = (
    pin-agrees place pin (λ e. news (or_left (pin.net == net) _ (eq-eqb pin.net net e)) (place - pin.delay) (omega arith)),
    pins-agree place small pins (λ a. news (or_right (pin.net == net) _ a)),
  )

  -- a cell sees the same in both, unless it relies on a word that is another one
  pub cell-agrees : (opened : Bool) (cell : Cell)
      → (opened ≡ false → (clock : Clock) (pin : Pin) → cell ≡ Flop clock pin → (place : ℕ) → first ≤ place → place < 64 → arrives_by clock pin.delay (to + place - 64) ≡ true
      → place < first + pin.delay)
      → (Relies opened cell net → (q : ℕ) → q < 64 → g net q ≡ f net q) → (place : ℕ) → first ≤ place → place < 64
      → EachSeen (λ pin. seen f place pin ≡ seen g place pin) to cell place
  cell-agrees opened Told closed news place from small = tt
  cell-agrees opened (Gate kind pins) closed news place from small = pins-agree place small pins (λ a. news (a, inl refl))
  cell-agrees opened (Flop clock pin) closed news place from small = λ a. pin-agrees place pin (λ e. go e a (cases_Bool opened))
    where
      go : pin.net ≡ net → arrives_by clock pin.delay (to + place - 64) ≡ true → (opened ≡ true) ⊎ (opened ≡ false) → g net (place - pin.delay) ≡ f net (place - pin.delay)
      go e a (inl is) = news (or_left (pin.net == net) _ (eq-eqb pin.net net e), inr (refl, is)) (place - pin.delay) (omega arith)
      go e a (inr isnt) =
          let before : place < first + pin.delay = closed isnt clock pin refl place from small a in
          past (place - pin.delay) (omega (arith, before, begun))

  -- so the slot is settled whose word was made, and others are that were
  pub visit-settles : (cells : ℕ → Cell) → IsMade f (g net) to first (cells net) → (m : ℕ) → is_made (cells m) ≡ true
      → ((place : ℕ) → first ≤ place → place < 64 → EachSeen (λ pin. seen f place pin ≡ seen g place pin) to (cells m) place)
      → (m ≢ net → IsSettled f to first m (cells m)) → IsSettled g to first m (cells m)
  visit-settles cells made m is agrees settled = go (cases_eq m net)
    where
      go : (m ≡ net) ⊎ (m ≡ net → ⊥) → IsSettled g to first m (cells m)
      go (inl e) =
          let here : IsMade f (g m) to first (cells m) = subst (λ (n : ℕ). IsMade f (g n) to first (cells n)) (sym e) made in
          settled-made f g to first m (cells m) is agrees here
      go (inr other) = settled-stays f g to first m (cells m) is begun agrees (λ place small. sym (others m place other)) (settled other)
