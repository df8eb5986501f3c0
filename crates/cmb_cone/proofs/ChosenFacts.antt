-- The nets of a list, each once, and the places of some nets in a list.
use Rattle.std.proofs.Common.{◌≡◌, ℕ, ◌+◌, ◌<◌, ◌≤◌, ◌⊎◌, inl, inr, Bool, true, false, List, [], ◌∷◌, length, map, get_or, refl, sym, ap, ◌∙◌, arith, subst}
use Rattle.std.specs.Prelude.{All, Contains, nat_eq}
use Rattle.std.specs.List.{filter, range_with_len}
use Rattle.std.specs.List.Sorted.{IsStrictlyIncreasing}
use Rattle.std.proofs.lemmas.Bool.{cases_lt}
use Rattle.std.proofs.lemmas.Bool.Decides.{nat_tests}
use Rattle.std.proofs.lemmas.List.{get_or-map, length-map}
use Rattle.std.proofs.lemmas.List.Elements.{All-contains, All-filter, All-map}
use Rattle.std.proofs.lemmas.List.Folds.{list_any_at}
use Rattle.std.proofs.lemmas.List.Kept.{IsStrictlyIncreasing-filter}
use Rattle.cmb_design_model.proofs.RowFacts.{same_test}
use Rattle.cmb_cone.specs.Chosen.{each_once}
use Rattle.cmb_cone.specs.Inner.Found.{Gains, IsFound}
use Rattle.cmb_cone.specs.Inner.Places.{ArePlaces}
use Rattle.cmb_cone.specs.Restriction.{is_among}
use Rattle.cmb_cone.specs.declared.closed.Found.{Found}
use Rattle.cmb_cone.proofs.FoundFacts.{range_below, range_rises}
use Rattle.cmb_cone.proofs.PartFacts.{among_contains, map_back, place_back, rising_apart, rising_few}

filter_same : (p q : ℕ → Bool) (xs : List ℕ) → ((x : ℕ) → p x ≡ q x) → filter p xs ≡ filter q xs
filter_same p q [] same = refl
filter_same p q (x ∷ xs) same = rw (same x, filter_same p q xs same) refl

contains_among : (nets : List ℕ) (net : ℕ) → Contains nets net → is_among nets net ≡ true
contains_among nets net there =
    let here : nat_eq net (get_or nets there.0 net) ≡ true = let e : get_or nets there.0 net ≡ net = there.2 in grind (arith, nat_tests) in
    list_any_at (nat_eq net) nets there.0 net there.1 here

pub once_is : (nets : List ℕ) (count : ℕ) (found : Found) (chosen : List ℕ) → IsFound found → length found.marks.items ≡ count → Gains [] nets found.list.items
    → chosen ≡ filter (λ net. get_or found.marks.items net false) (range_with_len 0 (length found.marks.items)) → chosen ≡ each_once count nets
once_is nets count found chosen is long gains e =
    e ∙ ap (λ n. filter (λ net. get_or found.marks.items net false) (range_with_len 0 n)) long
    ∙ filter_same (λ net. get_or found.marks.items net false) (is_among nets) (range_with_len 0 count) (λ net. same_test _ _ (into net) (out net))
  where
    into : (net : ℕ) → get_or found.marks.items net false ≡ true → is_among nets net ≡ true
    into net marked =
        let P : List ℕ → Type 0 = λ xs. All (Contains nets) xs in
        contains_among nets net (All-contains (Contains nets) found.list.items net (subst P (sym gains.after) gains.asked) (is.listed net marked))

    out : (net : ℕ) → is_among nets net ≡ true → get_or found.marks.items net false ≡ true
    out net among =
        All-contains (λ n. get_or found.marks.items n false ≡ true) found.list.items net is.marked (All-contains (Contains found.list.items) nets net gains.has (among_contains nets net among))

pub once_rises : (count : ℕ) (nets chosen : List ℕ) → chosen ≡ each_once count nets → IsStrictlyIncreasing chosen
once_rises count nets chosen e =
    let P : List ℕ → Type 0 = λ xs. IsStrictlyIncreasing xs in subst P (sym e) (IsStrictlyIncreasing-filter (is_among nets) (range_with_len 0 count) (range_rises count))

pub once_below : (count : ℕ) (nets chosen : List ℕ) → chosen ≡ each_once count nets → All (λ net. net < count) chosen
once_below count nets chosen e =
    let P : List ℕ → Type 0 = λ xs. All (λ net. net < count) xs in subst P (sym e) (All-filter (is_among nets) (λ net. net < count) (range_with_len 0 count) (range_below count))

pub once_few : (count : ℕ) (nets chosen : List ℕ) → chosen ≡ each_once count nets → count ≤ 65535 → length chosen ≤ 65535
once_few count nets chosen e few = let l = rising_few chosen count (once_rises count nets chosen e) (once_below count nets chosen e) in omega (arith, few)

-- ---- places

module _ (nets places some found : List ℕ) (are : ArePlaces nets places) (rising : IsStrictlyIncreasing nets) (there : All (Contains nets) some) (is : found ≡ map (λ net. get_or places net 0) some) where
  pub places_back : map (λ place. get_or nets place 0) found ≡ some
  places_back =
      ap (map (λ place. get_or nets place 0)) is
      ∙ map_back (λ place. get_or nets place 0) (λ net. get_or places net 0) some (λ k d within. (place_back nets places are (get_or some k d) (there k d within)).1)

  pub places_within : All (λ place. place < length nets) found
  places_within =
      let P : List ℕ → Type 0 = λ xs. All (λ place. place < length nets) xs in
      subst P (sym is) (All-map (λ place. place < length nets) (λ net. get_or places net 0) some (λ k d within. (place_back nets places are (get_or some k d) (there k d within)).0))

  pub places_count : length found ≡ length some
  places_count = ap length is ∙ length-map some (λ net. get_or places net 0)

  place_at : (k : ℕ) → k < length some → get_or nets (get_or found k 0) 0 ≡ get_or some k 0
  place_at k within =
      ap (λ xs. get_or nets (get_or xs k 0) 0) is ∙ ap (λ p. get_or nets p 0) (get_or-map (λ net. get_or places net 0) some k 0 0 within)
      ∙ (place_back nets places are (get_or some k 0) (there k 0 within)).1

  pub places_rise : IsStrictlyIncreasing some → IsStrictlyIncreasing found
  places_rise rises k within =
      let long : length found ≡ length some = places_count in
      let later : k + 1 < length some = omega arith in
      let less : get_or some k 0 < get_or some (k + 1) 0 = rises k later in
      let a = place_at k (omega arith) in
      let b = place_at (k + 1) later in
      by (cases_lt (get_or found k 0) (get_or found (k + 1) 0)) less a b
    where
      by : (get_or found k 0 < get_or found (k + 1) 0) ⊎ (get_or found (k + 1) 0 ≤ get_or found k 0) → get_or some k 0 < get_or some (k + 1) 0
          → get_or nets (get_or found k 0) 0 ≡ get_or some k 0 → get_or nets (get_or found (k + 1) 0) 0 ≡ get_or some (k + 1) 0 → get_or found k 0 < get_or found (k + 1) 0
      by (inl l) less a b = l
      by (inr l) less a b = absurd (not_above (get_or found (k + 1) 0) (get_or found k 0) l (places_within k 0 (omega arith)) (omega (arith, a, b)))
        where
          not_above : (low high : ℕ) → low ≤ high → high < length nets → get_or nets high 0 < get_or nets low 0 → ⊥
          not_above low high order bound below = again (cases_lt low high)
            where
              again : (low < high) ⊎ (high ≤ low) → ⊥
              again (inl l2) = let up : get_or nets low 0 < get_or nets high 0 = rising_apart nets rising low high l2 bound in absurd (omega arith)
              again (inr l2) = let e : low ≡ high = omega arith in let same : get_or nets low 0 ≡ get_or nets high 0 = ap (λ n. get_or nets n 0) e in absurd (omega arith)
