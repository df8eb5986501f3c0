-- Places of a list that are written one after another.
use Rattle.std.proofs.Common.{◌≡◌, ◌⊎◌, inl, inr, ℕ, ◌+◌, ◌<◌, ◌≤◌, Bool, true, false, List, length, get_or, set, refl, sym, subst, arith}
use Rattle.std.proofs.lemmas.Bool.{cases_eq}
use Rattle.std.proofs.lemmas.List.{get_or-set_other, get_or-set_same, length-set}

-- the first places were written, and the others not yet
pub record AreWritten {X : Type 0} (P Q : ℕ → X → Type 0) (place : ℕ) (list : List X) : Type 0 where
  pub before : (k : ℕ) (d : X) → k < place → k < length list → P k (get_or list k d)
  pub rest : (k : ℕ) (d : X) → place ≤ k → k < length list → Q k (get_or list k d)

module _ {X : Type 0} (P Q : ℕ → X → Type 0) (list : List X) where
  pub written-none : ((k : ℕ) (d : X) → k < length list → Q k (get_or list k d)) → AreWritten P Q 0 list
  written-none are = record { before = λ k d h. absurd (omega (arith, h)); rest = λ k d _ within. are k d within }

  pub written-all : (place : ℕ) → length list ≤ place → AreWritten P Q place list → (k : ℕ) (d : X) → k < length list → P k (get_or list k d)
  written-all place through are k d within = are.before k d (omega (arith, through, within)) within

  -- one more
  pub written-more : (place : ℕ) (x : X) → place < length list → P place x → AreWritten P Q place list → AreWritten P Q (place + 1) (set list place x)
  written-more place x less is are = record {
    before = λ k d h within. by k d h (omega (arith, within, length-set list place x)) (cases_eq k place);
    rest = λ k d h within.
        let other : get_or (set list place x) k d ≡ get_or list k d = get_or-set_other list place k x d (omega (arith, h)) in
        subst (Q k) (sym other) (are.rest k d (omega (arith, h)) (omega (arith, within, length-set list place x)));
  }
    where
      by : (k : ℕ) (d : X) → k < place + 1 → k < length list → (k ≡ place) ⊎ (k ≡ place → ⊥) → P k (get_or (set list place x) k d)
      by k d h within (inl e) = subst (λ n. P n (get_or (set list place x) n d)) (sym e) (subst (P place) (sym (get_or-set_same list place x d less)) is)
      by k d h within (inr n) = subst (P k) (sym (get_or-set_other list place k x d n)) (are.before k d (omega (arith, h, n)) within)

-- of two ways
pub bool_cases : {P : Type 0} (b : Bool) → (b ≡ true → P) → (b ≡ false → P) → P
bool_cases {P = P} b first second = by b refl
  where
    by : (v : Bool) → b ≡ v → P
    by true e = first e
    by false e = second e
