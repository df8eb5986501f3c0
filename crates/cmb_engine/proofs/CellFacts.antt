-- Words that are settled, and known where they look, are true.
use Rattle.std.proofs.Common.{◌≡◌, ℕ, zero, suc, ◌+◌, ◌-◌, ◌<◌, ◌≤◌, ◌⊎◌, inl, inr, true, false, List, [], ◌∷◌, map, refl, sym, ap, ap₂, ◌∙◌, arith}
use Rattle.std.proofs.lemmas.Bool.{cases_lt, cases_Bool, false≢true}
use Rattle.std.specs.List.{AllByRecursion}
use Rattle.cmb_wave.specs.declared.level.Level.{Level}
use Rattle.cmb_design_model.specs.Gate.{gate}
use Rattle.cmb_engine.specs.Rows.{arrives_by}
use Rattle.cmb_engine.specs.Inner.Cells.{Cell, Told, Gate, Flop, is_made, seen, cell_level, EachSeen, IsMade, IsSettled, IsSteady, IsReadable, IsReady, IsTrueBelow}
use Rattle.cmb_engine.specs.declared.cell.Pin.{Pin}

pub all-weaker : (P Q : Pin → Type 0) (pins : List Pin) → ((pin : Pin) → P pin → Q pin) → AllByRecursion P pins → AllByRecursion Q pins
all-weaker P Q [] f h = tt
all-weaker P Q (pin ∷ pins) f h = (f pin h.0, all-weaker P Q pins f h.1)

pub each-weaker : (P Q : Pin → Type 0) (to : ℕ) (cell : Cell) (place : ℕ) → ((pin : Pin) → P pin → Q pin) → EachSeen P to cell place → EachSeen Q to cell place
each-weaker P Q to Told place f h = tt
each-weaker P Q to (Gate kind pins) place f h = all-weaker P Q pins f h
each-weaker P Q to (Flop clock pin) place f h = λ a. f pin (h a)

pub seen-same : (f g : ℕ → ℕ → Level) (place : ℕ) (pins : List Pin) → AllByRecursion (λ pin. seen f place pin ≡ seen g place pin) pins → map (seen f place) pins ≡ map (seen g place) pins
seen-same f g place [] same = refl
seen-same f g place (pin ∷ pins) same = ap₂ (λ level levels. level ∷ levels) same.0 (seen-same f g place pins same.1)

-- a cell makes the same of words that agree where it looks
pub cell_level-same : (f g : ℕ → ℕ → Level) (own other : ℕ → Level) (to place : ℕ) (cell : Cell) → is_made cell ≡ true
    → EachSeen (λ pin. seen f place pin ≡ seen g place pin) to cell place → own (place - 1) ≡ other (place - 1)
    → cell_level f own to cell place ≡ cell_level g other to cell place
cell_level-same f g own other to place Told made same past = absurd (false≢true made)
cell_level-same f g own other to place (Gate kind pins) made same past = ap (gate kind) (seen-same f g place pins same)
cell_level-same f g own other to place (Flop clock pin) made same past = go (cases_Bool (arrives_by clock pin.delay (to + place - 64)))
  where
    go : (arrives_by clock pin.delay (to + place - 64) ≡ true) ⊎ (arrives_by clock pin.delay (to + place - 64) ≡ false)
        → cell_level f own to (Flop clock pin) place ≡ cell_level g other to (Flop clock pin) place
    go (inl a) = rw a (same a)
    go (inr a) = rw a past

module _ (words truth : ℕ → ℕ → Level) (cells : ℕ → Cell) (to first : ℕ) (ready : IsReady words truth cells to first) where
  -- what a cell makes in a place is true, where the made words are true below it
  pub made-true : (own : ℕ → Level) (net place : ℕ) → is_made (cells net) ≡ true → first ≤ place → place < 64 → IsTrueBelow words truth cells place
      → own (place - 1) ≡ truth net (place - 1) → cell_level words own to (cells net) place ≡ truth net place
  made-true own net place made from small below past =
      cell_level-same words truth own (truth net) to place (cells net) made
      (each-weaker _ _ to (cells net) place (λ pin h. agrees pin h (cases_Bool (is_made (cells pin.net)))) (ready.readable net place made from small))
      past
      ∙ sym (ready.true_settled net made place from small)
    where
      agrees : (pin : Pin) → IsReadable words truth cells place pin → (is_made (cells pin.net) ≡ true) ⊎ (is_made (cells pin.net) ≡ false)
          → seen words place pin ≡ seen truth place pin
      agrees pin h (inl a) = below pin.net (place - pin.delay) a (omega (arith, h.0 a, ready.later))
      agrees pin h (inr a) = h.1 a

  -- so made words that are true below the window, and settled in it, are true
  settled-true-at : (net place : ℕ) → is_made (cells net) ≡ true → IsSettled words to first net (cells net) → place < 64 → IsTrueBelow words truth cells first
      → IsTrueBelow words truth cells place → (place < first) ⊎ (first ≤ place) → words net place ≡ truth net place
  settled-true-at net place made settled small past below (inl k) = past net place made k
  settled-true-at net place made settled small past below (inr k) =
      settled place k small ∙ made-true (words net) net place made k small below (below net (place - 1) made (omega (arith, ready.later)))

  settled-true-below : (upto : ℕ) → upto ≤ 64 → IsTrueBelow words truth cells first → ((net : ℕ) → is_made (cells net) ≡ true → IsSettled words to first net (cells net))
      → IsTrueBelow words truth cells upto
  settled-true-below zero fits past settled net place made below = absurd (omega arith)
  settled-true-below (suc upto) fits past settled net place made below = go (settled-true-below upto (omega arith) past settled) (cases_lt place upto)
    where
      go : IsTrueBelow words truth cells upto → (place < upto) ⊎ (upto ≤ place) → words net place ≡ truth net place
      go so_far (inl l) = so_far net place made l
      go so_far (inr l) =
          settled-true-at net place made (settled net made) (omega arith) past (λ other at o h. so_far other at o (omega arith)) (cases_lt place first)

  pub settled-true : IsTrueBelow words truth cells first → ((net : ℕ) → is_made (cells net) ≡ true → IsSettled words to first net (cells net)) → IsTrueBelow words truth cells 64
  settled-true past settled = settled-true-below 64 (omega arith) past settled

-- ---- what keeps a net settled

-- a net stays settled where its own word and those that its cell reads stay
pub settled-stays : (f g : ℕ → ℕ → Level) (to first net : ℕ) (cell : Cell) → is_made cell ≡ true → 1 ≤ first
    → ((place : ℕ) → first ≤ place → place < 64 → EachSeen (λ pin. seen f place pin ≡ seen g place pin) to cell place) → ((place : ℕ) → place < 64 → f net place ≡ g net place)
    → IsSettled f to first net cell → IsSettled g to first net cell
settled-stays f g to first net cell made begun reads own settled place from small =
    sym (own place small) ∙ settled place from small ∙ cell_level-same f g (f net) (g net) to place cell made (reads place from small) (own (place - 1) (omega arith))

-- a net whose word was made is settled where its cell doesn't read it
pub settled-made : (f g : ℕ → ℕ → Level) (to first net : ℕ) (cell : Cell) → is_made cell ≡ true → ((place : ℕ) → first ≤ place → place < 64 → EachSeen (λ pin. seen f place pin ≡ seen g place pin) to cell place)
    → IsMade f (g net) to first cell → IsSettled g to first net cell
settled-made f g to first net Told made reads h place from small = absurd (false≢true made)
settled-made f g to first net (Gate kind pins) made reads h place from small = h place from small ∙ ap (gate kind) (seen-same f g place pins (reads place from small))
settled-made f g to first net (Flop clock pin) made reads h place from small =
    h place from small ∙ go (cases_Bool (arrives_by clock pin.delay (to + place - 64)))
  where
    go : (arrives_by clock pin.delay (to + place - 64) ≡ true) ⊎ (arrives_by clock pin.delay (to + place - 64) ≡ false)
        → cell_level f (g net) to (Flop clock pin) place ≡ cell_level g (g net) to (Flop clock pin) place
    go (inl a) = rw a (reads place from small a)
    go (inr a) = rw a refl

-- a net that repeats its level is settled where what its cell sees repeats too, and no sample brings another level
pub settled-steady : (f : ℕ → ℕ → Level) (to first net : ℕ) (cell : Cell) → is_made cell ≡ true → 1 ≤ first
    → ((place : ℕ) → first ≤ place → place < 64 → f net place ≡ f net (first - 1))
    → IsSteady f to first net cell → IsSettled f to first net cell
settled-steady f to first net Told made begun own steady place from small = absurd (false≢true made)
settled-steady f to first net (Gate kind pins) made begun own steady place from small =
    own place from small ∙ steady.0 ∙ ap (gate kind) (sym (seen-steady pins (steady.1 place from small)))
  where
    seen-steady : (pins : List Pin) → AllByRecursion (λ pin. seen f place pin ≡ seen f (first - 1) pin) pins → map (seen f place) pins ≡ map (seen f (first - 1)) pins
    seen-steady [] h = refl
    seen-steady (pin ∷ pins) h = ap₂ (λ level levels. level ∷ levels) h.0 (seen-steady pins h.1)
settled-steady f to first net (Flop clock pin) made begun own steady place from small = go (cases_Bool (arrives_by clock pin.delay (to + place - 64))) (cases_lt first place)
  where
    go : (arrives_by clock pin.delay (to + place - 64) ≡ true) ⊎ (arrives_by clock pin.delay (to + place - 64) ≡ false) → (first < place) ⊎ (place ≤ first)
        → f net place ≡ cell_level f (f net) to (Flop clock pin) place
    go (inl a) _ = rw a (own place from small ∙ sym (steady place from small a))
    go (inr a) (inl l) = rw a (own place from small ∙ sym (own (place - 1) (omega arith) (omega arith)))
    go (inr a) (inr l) = let same : place ≡ first = omega arith in rw a (own place from small ∙ ap (λ p. f net (p - 1)) (sym same))
