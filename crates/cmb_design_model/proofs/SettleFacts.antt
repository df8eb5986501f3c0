-- What the nets' rows told is settled net by net.
use Rattle.std.proofs.Common.{◌≡◌, ◌≢◌, ◌≤◌, ◌<◌, ◌+◌, ℕ, zero, suc, List, [], ◌∷◌, Some, length, get_or, map, set, refl, sym, ap, arith, ◌∙◌, ⊎_elim, get_or-set_same}
use Rattle.std.specs.Prelude.{slice_get}
use Rattle.std.proofs.lemmas.Bool.{cases_lt}
use Rattle.std.proofs.lemmas.Option.{slice_get_within}
use Rattle.std.proofs.Math.ListN.{length-set}
use Rattle.cmb_wave.specs.declared.level.Change.{Change}
use Rattle.cmb_design_model.specs.Inner.RowLevels.{changes_in}
use Rattle.cmb_design_model.specs.declared.row_levels.RowLevels.{RowLevels}
use Rattle.cmb_design_model.proofs.CheckFacts.{get_some}

-- the nets below i are settled, and the others as they were
pub record Settling (f : RowLevels → List Change) (old now : List RowLevels) (i : ℕ) : Type 0 where
  pub nets : length now ≡ length old
  pub left : (k : ℕ) → i ≤ k → slice_get now k ≡ slice_get old k
  pub done : (k : ℕ) (x y : RowLevels) → k < i → slice_get now k ≡ Some x → slice_get old k ≡ Some y → changes_in x ≡ f y

pub settling_start : (f : RowLevels → List Change) (old : List RowLevels) → Settling f old old 0
settling_start f old = record { nets = refl; left = λ k b. refl; done = λ k x y b p q. absurd (omega arith) }

at_set : (xs : List RowLevels) (i : ℕ) (x : RowLevels) → i < length xs → slice_get (set xs i x) i ≡ Some x
at_set xs i x h = get_some (set xs i x) i x (omega (arith, length-set xs i x, h)) (sym (get_or-set_same xs i x x h))

beside_set : (xs : List RowLevels) (i k : ℕ) (x : RowLevels) → k ≢ i → slice_get (set xs i x) k ≡ slice_get xs k
beside_set [] i k x h = refl
beside_set (y ∷ ys) zero zero x h = absurd (h refl)
beside_set (y ∷ ys) zero (suc k) x h = refl
beside_set (y ∷ ys) (suc i) zero x h = refl
beside_set (y ∷ ys) (suc i) (suc k) x h = beside_set ys i k x (λ e. h (ap suc e))

pub settling_round : (f : RowLevels → List Change) (old now : List RowLevels) (i : ℕ) (m x : RowLevels) → Settling f old now i → i < length now → m ≡ get_or now i m → changes_in x ≡ f m → Settling f old (set now i x) (i + 1)
settling_round f old now i m x s h e g = record {
  nets = length-set now i x ∙ s.nets;
  left = λ k b. beside_set now i k x (λ j. absurd (omega arith)) ∙ s.left k (omega arith);
  done = λ k a y b p q. ⊎_elim
      (λ (j : k < i). s.done k a y j (sym (beside_set now i k x (λ u. absurd (omega arith))) ∙ p) q)
      (λ (j : i ≤ k).
      let same : k ≡ i = omega arith in
      let v : x ≡ a = let here = sym (at_set now i x h) ∙ sym (ap (slice_get (set now i x)) same) ∙ p in cc here in
      let w : m ≡ y = let here = sym (get_some now i m h e) ∙ s.left i (omega arith) ∙ sym (ap (slice_get old) same) ∙ q in cc here in
      ap changes_in (sym v) ∙ g ∙ ap f w)
      (cases_lt k i);
}

all_same : (f : RowLevels → List Change) (old now : List RowLevels) → length now ≡ length old → ((k : ℕ) (x y : RowLevels) → slice_get now k ≡ Some x → slice_get old k ≡ Some y → changes_in x ≡ f y) → map changes_in now ≡ map f old
all_same f [] [] n h = refl
all_same f (y ∷ ys) [] n h = absurd (omega (arith, n))
all_same f [] (x ∷ xs) n h = absurd (omega (arith, n))
all_same f (y ∷ ys) (x ∷ xs) n h =
    let first = h 0 x y refl refl in
    let more = all_same f ys xs (omega (arith, n)) (λ k. h (suc k)) in
    λ i. first i ∷ more i

pub settling_end : (f : RowLevels → List Change) (old now : List RowLevels) (i : ℕ) → Settling f old now i → length now ≤ i → map changes_in now ≡ map f old
settling_end f old now i s past = all_same f old now s.nets (λ k x y p q. let b = slice_get_within now k x p in s.done k x y (omega (arith, b)) p q)
