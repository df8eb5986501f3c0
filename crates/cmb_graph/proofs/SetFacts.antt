-- Places are set to one value, one after another, and marks of a part to true.
use Rattle.std.proofs.Common.{◌≡◌, ◌⊎◌, inl, inr, ℕ, ◌+◌, ◌<◌, Bool, true, false, List, [], ◌∷◌, ◌++◌, length, take, get_or, set, sym, ap, ◌∙◌, subst}
use Rattle.std.specs.Prelude.{Contains}
use Rattle.std.proofs.lemmas.Bool.{cases_eq}
use Rattle.std.proofs.lemmas.List.{get_or-set_other, get_or-set_same, length-set, take_more}
use Rattle.std.proofs.lemmas.List.Elements.{All-contains, All-push, All-weaker, Contains-append_left, Contains-push}
use Rattle.cmb_graph.specs.Inner.Search.{AreSet, HasEdge, IsLooped}

-- one more place is set
pub set_more : {A : Type 0} (value : A) (old now : List A) (places : List ℕ) (k : ℕ) → k < length places → get_or places k 0 < length now
    → AreSet value old (take k places) now → AreSet value old (take (k + 1) places) (set now (get_or places k 0) value)
set_more {A} value old now places k within inside is = rw (take_more places k 0 within) (record {
  long = length-set now here value ∙ is.long;
  all = λ beyond. All-push (λ place. get_or (set now here value) place beyond ≡ value) (take k places) here
      (All-weaker (λ place. get_or now place beyond ≡ value) (λ place. get_or (set now here value) place beyond ≡ value) (λ place e. kept place beyond e (cases_eq place here))
      (take k places) (is.all beyond)) (get_or-set_same now here value beyond inside);
  others = λ place beyond. other place beyond (cases_eq place here) (is.others place beyond);
})
  where
    here : ℕ
    here = get_or places k 0

    kept : (place : ℕ) (beyond : A) → get_or now place beyond ≡ value → (place ≡ here) ⊎ (place ≡ here → ⊥) → get_or (set now here value) place beyond ≡ value
    kept place beyond e (inl same) = ap (λ p. get_or (set now here value) p beyond) same ∙ get_or-set_same now here value beyond inside
    kept place beyond e (inr n) = get_or-set_other now here place value beyond n ∙ e

    other : (place : ℕ) (beyond : A) → (place ≡ here) ⊎ (place ≡ here → ⊥) → Contains (take k places) place ⊎ (get_or now place beyond ≡ get_or old place beyond)
        → Contains (take k places ++ here ∷ []) place ⊎ (get_or (set now here value) place beyond ≡ get_or old place beyond)
    other place beyond (inl same) was = inl (subst (Contains (take k places ++ here ∷ [])) (sym same) (Contains-push (take k places) here))
    other place beyond (inr n) (inl there) = inl (Contains-append_left (take k places) (here ∷ []) place there)
    other place beyond (inr n) (inr e) = inr (get_or-set_other now here place value beyond n ∙ e)

-- the nets of a part with an edge are marked
pub looped_set : (next : ℕ → List ℕ) (old : List Bool) (part : List ℕ) (new : List Bool) → HasEdge next part → AreSet true old part new → IsLooped next old part new
looped_set next old part new edge is = record {
  long = is.long;
  kept = λ net marked. by-kept net marked (is.others net false);
  all = λ _. is.all false;
  only = λ net marked. by-only net marked (is.others net false);
}
  where
    by-kept : (net : ℕ) → get_or old net false ≡ true → Contains part net ⊎ (get_or new net false ≡ get_or old net false) → get_or new net false ≡ true
    by-kept net marked (inl there) = All-contains (λ place. get_or new place false ≡ true) part net (is.all false) there
    by-kept net marked (inr e) = e ∙ marked

    by-only : (net : ℕ) → get_or new net false ≡ true → Contains part net ⊎ (get_or new net false ≡ get_or old net false)
        → (get_or old net false ≡ true) ⊎ (Contains part net × HasEdge next part)
    by-only net marked (inl there) = inr (there, edge)
    by-only net marked (inr e) = inl (sym e ∙ marked)
