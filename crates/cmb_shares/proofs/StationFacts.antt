-- The stations of a run as it begins.
use Rattle.std.proofs.Common.{◌≡◌, ◌⊎◌, inl, inr, ℕ, suc, ◌+◌, ◌<◌, ◌≤◌, ◌++◌, List, [], ◌∷◌, length, get_or, subst, sym, arith}
use Rattle.std.specs.Prelude.{remove}
use Rattle.std.proofs.lemmas.Bool.{cases_eq}
use Rattle.std.proofs.lemmas.List.{get_or_append_left, get_or_push, length_push}
use Rattle.cmb_engine.specs.Shares.{ShareEngine}
use Rattle.cmb_shares.specs.Inner.Opened.{AreEngines, IsEngineOf}
use Rattle.cmb_shares.specs.Inner.Runs.{Run, driven_by, subject_in}

-- one more, of which what is said of its place holds
pub each-push : {X : Type 0} (P : ℕ → X → Type 0) (xs : List X) (x : X) → ((k : ℕ) (d : X) → k < length xs → P k (get_or xs k d)) → P (length xs) x
    → (k : ℕ) (d : X) → k < length (xs ++ x ∷ []) → P k (get_or (xs ++ x ∷ []) k d)
each-push {X = X} P xs x each one k d within = by (cases_eq k (length xs))
  where
    by : (k ≡ length xs) ⊎ (k ≡ length xs → ⊥) → P k (get_or (xs ++ x ∷ []) k d)
    by (inl e) = subst (P k) (sym (get_or_push xs x d k (sym e))) (subst (λ n. P n x) (sym e) one)
    by (inr n) =
        let inside : k < length xs = omega (arith, within, length_push xs x, n) in
        subst (P k) (sym (get_or_append_left xs (x ∷ []) d k inside)) (each k d inside)

-- the engines but the first
pub engines-rest : (run : Run) (first : ℕ) (engines : List ShareEngine) → 0 < length engines → AreEngines run first engines → AreEngines run (first + 1) (remove engines 0)
engines-rest run first [] some each = absurd (omega (arith, some))
engines-rest run first (e ∷ es) some each = λ k d h.
    let here : first + suc k ≡ (first + 1) + k = omega arith in
    subst (λ n. IsEngineOf (subject_in run) run.crossing run.owners n (driven_by run n) (get_or es k d)) here (each (suc k) d (omega (arith, h)))

pub short-rest : (width : ℕ) (engines : List ShareEngine) → 0 < length engines → ((k : ℕ) (d : ShareEngine) → k < length engines → width ≤ (get_or engines k d).width)
    → (k : ℕ) (d : ShareEngine) → k < length (remove engines 0) → width ≤ (get_or (remove engines 0) k d).width
short-rest width [] some each = absurd (omega (arith, some))
short-rest width (e ∷ es) some each = λ k d h. each (suc k) d (omega (arith, h))
