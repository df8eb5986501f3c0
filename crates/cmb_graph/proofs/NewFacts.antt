-- Which nets are new, and how many.
use Rattle.std.proofs.Common.{◌≡◌, ◌≢◌, ◌⊎◌, inl, inr, ℕ, suc, ◌+◌, ◌<◌, ◌≤◌, cond, List, [], ◌∷◌, length, get_or, set, refl, sym, ap, ◌∙◌, arith}
use Rattle.std.specs.Prelude.{Contains, count_by}
use Rattle.std.proofs.lemmas.Bool.{cases_eq}
use Rattle.std.proofs.lemmas.List.{get_or-set_same, get_or-set_other}
use Rattle.std.proofs.lemmas.List.Elements.{All-contains}
use Rattle.std.proofs.lemmas.List.Sums.{sum_by-cons, sum_by-set}
use Rattle.cmb_graph.specs.Inner.Search.{AreSet, IsStill, is_new, seen_of}
use Rattle.cmb_graph.specs.declared.search.Seen.{Seen}
use Rattle.cmb_graph.specs.declared.search.Seen.TheVariants.{New, On, Done}

-- no net becomes new where nets are done
pub still_closed : (old new : List Seen) (part : List ℕ) → AreSet Done old part new → IsStill old new
still_closed old new part shut x h = by (shut.others x New)
  where
    by : Contains part x ⊎ (seen_of new x ≡ seen_of old x) → seen_of old x ≡ New
    by (inl there) = let done : seen_of new x ≡ Done = All-contains (λ y. seen_of new y ≡ Done) part x (shut.all New) there in absurd cc
    by (inr same) = sym same ∙ h

-- nor where a net comes to stand on the path
pub still_entered : (old new : List Seen) (net place : ℕ) → net < length old → new ≡ set old net (On place) → IsStill old new
still_entered old new net place within e x h = by (cases_eq x net)
  where
    by : (x ≡ net) ⊎ (x ≢ net) → seen_of old x ≡ New
    by (inl same) = let f : seen_of new x ≡ On place = ap (seen_of new) same ∙ ap (λ s. seen_of s net) e ∙ get_or-set_same old net (On place) New within in absurd cc
    by (inr ne) = sym (ap (λ s. seen_of s x) e ∙ get_or-set_other old net x (On place) New ne) ∙ h

-- a net that was entered is not new later on
pub found_entered : (old new later : List Seen) (net place : ℕ) → net < length old → new ≡ set old net (On place) → IsStill new later → seen_of later net ≢ New
found_entered old new later net place within e still x =
    let on : seen_of new net ≡ On place = ap (λ s. seen_of s net) e ∙ get_or-set_same old net (On place) New within in
    let fresh : seen_of new net ≡ New = still net x in
    absurd cc

-- where no net became new there are no more new ones
pub fewer_new : (old new : List Seen) → length new ≡ length old → IsStill old new → count_by is_new new ≤ count_by is_new old
fewer_new [] [] long still = omega arith
fewer_new [] (s ∷ new) long still = absurd (omega (arith, long))
fewer_new (s ∷ old) [] long still = absurd (omega (arith, long))
fewer_new (s ∷ old) (t ∷ new) long still =
    let rest = fewer_new old new (omega (arith, long)) (λ net h. still (suc net) h) in
    omega (arith, rest, first s t (still 0), sum_by-cons one s old, sum_by-cons one t new)
  where
    one : Seen → ℕ
    one s = cond (is_new s) 1 0

    first : (s t : Seen) → (t ≡ New → s ≡ New) → one t ≤ one s
    first s New new = rw (new refl) (omega arith)
    first s (On place) new = omega arith
    first s Done new = omega arith

-- a new net that comes to stand on the path is one less
pub one_fewer : (seen : List Seen) (net place : ℕ) → net < length seen → seen_of seen net ≡ New → count_by is_new (set seen net (On place)) + 1 ≡ count_by is_new seen
one_fewer seen net place within new =
    let one : Seen → ℕ = λ s. cond (is_new s) 1 0 in
    let e = sum_by-set one seen net (On place) New within in
    let f : one (get_or seen net New) ≡ 1 = ap one new in
    omega (arith, e, f)
