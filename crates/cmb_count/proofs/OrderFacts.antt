-- Nets by the numbers of their components.
use Rattle.std.proofs.Common.{◌≡◌, ℕ, ◌+◌, ◌<◌, ◌≤◌, List, [], ◌∷◌, ◌++◌, length, length-append, get_or, ◌⊎◌, inl, inr, refl, sym, ap, subst, ◌∙◌, arith}
use Rattle.std.specs.Prelude.{Contains}
use Rattle.std.specs.List.Sorted.{IsNonDecreasingBy, IsPermutation}
use Rattle.std.proofs.lemmas.Bool.{cases_lt}
use Rattle.std.proofs.lemmas.List.{get_or_append_left}
use Rattle.std.proofs.lemmas.List.Elements.{Contains-get_or}
use Rattle.std.proofs.lemmas.List.Sorted.{All-permutation, Contains-permutation}
use Rattle.std.proofs.Math.Seq.{get_or-append_seam}
use Rattle.cmb_count.specs.Inner.Arrivals.{IsOrder, number_of}
use Rattle.cmb_count.specs.declared.components.Ranked.{Ranked}

abbrev pub ranked_at : List ℕ → ℕ → Ranked
ranked_at numbers net = record { number = get_or numbers net 0; net = net }

-- the first nets, in their order
pub record ArePlaced (numbers : List ℕ) (order : List Ranked) (count : ℕ) : Type 0 where
  pub long : length order ≡ count
  pub each : (i : ℕ) (d : Ranked) → i < count → get_or order i d ≡ ranked_at numbers i

pub none_placed : (numbers : List ℕ) → ArePlaced numbers [] 0
none_placed numbers = record { long = refl; each = λ i d below. absurd (omega (arith, below)) }

pub one_placed : (numbers : List ℕ) (order : List Ranked) (count : ℕ) (new : Ranked) → ArePlaced numbers order count → new ≡ ranked_at numbers count
    → ArePlaced numbers (order ++ new ∷ []) (count + 1)
one_placed numbers order count new so_far is = record {
  long = length-append order (new ∷ []) ∙ (let e : length order + 1 ≡ count + 1 = omega (arith, so_far.long) in e);
  each = λ i d below. go i d (cases_lt i count) below;
}
  where
    go : (i : ℕ) (d : Ranked) → (i < count) ⊎ (count ≤ i) → i < count + 1 → get_or (order ++ new ∷ []) i d ≡ ranked_at numbers i
    go i d (inl early) below = get_or_append_left order (new ∷ []) d i (omega (arith, early, so_far.long)) ∙ so_far.each i d early
    go i d (inr late) below =
        let same : count ≡ i = omega (arith, late, below) in
        subst (λ (k : ℕ). get_or (order ++ new ∷ []) k d ≡ ranked_at numbers k) same
        (ap (λ (k : ℕ). get_or (order ++ new ∷ []) k d) (sym so_far.long) ∙ get_or-append_seam order new [] d ∙ is)

-- put in another order, they are all nets still
pub ordered : (numbers : List ℕ) (placed order : List Ranked) → ArePlaced numbers placed (length numbers) → IsPermutation placed order → IsNonDecreasingBy number_of order → IsOrder numbers order
ordered numbers placed order are moved rising = record {
  each = All-permutation Right placed order moved
      (λ i d within. let low : i < length numbers = omega (arith, within, are.long) in subst Right (sym (are.each i d low)) (low, refl));
  whole = λ net within. Contains-permutation placed order _ moved
      (subst (Contains placed) (are.each net (ranked_at numbers net) within) (Contains-get_or placed net (ranked_at numbers net) (omega (arith, within, are.long))));
  rising = rising;
}
  where
    Right : Ranked → Type 0
    Right ranked = (ranked.net < length numbers) × (ranked.number ≡ get_or numbers ranked.net 0)
