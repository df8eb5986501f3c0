-- The first so many of the nets that pass a test.
use Rattle.std.proofs.Common.{◌≡◌, ◌∙◌, ℕ, zero, suc, ◌+◌, ◌<◌, ◌≤◌, ◌⊎◌, inl, inr, List, [], ◌∷◌, ◌++◌, Bool, true, false, length, take, refl, sym, ap, subst, append-nil, cond, arith}
use Rattle.std.specs.Prelude.{All, ◌&&◌, if◌then◌else◌, nat_lt}
use Rattle.std.specs.List.{filter, range_with_len}
use Rattle.std.proofs.lemmas.Bool.{cases_lt, ltb-false, ltb-true}
use Rattle.std.proofs.lemmas.List.{length-append, length-take-le, map-id, take-append-le, take_all}
use Rattle.std.proofs.lemmas.List.Elements.{All-filter, All-take, filter-append}
use Rattle.std.proofs.lemmas.List.FromFn.{get_or-range_with_len, length-range_with_len, map-range_with_len_more}
use Rattle.cmb_count.specs.Findings.{first_nets}

range_more : (n : ℕ) → range_with_len 0 (n + 1) ≡ range_with_len 0 n ++ n ∷ []
range_more n = sym (map-id (range_with_len 0 (n + 1))) ∙ map-range_with_len_more (λ (k : ℕ). k) 0 n n (omega arith) ∙ ap (λ xs. xs ++ n ∷ []) (map-id (range_with_len 0 n))

filter_more : (test : ℕ → Bool) (net : ℕ) → filter test (range_with_len 0 (net + 1)) ≡ filter test (range_with_len 0 net) ++ cond (test net) (net ∷ []) []
filter_more test net = ap (filter test) (range_more net) ∙ filter-append test (range_with_len 0 net) (net ∷ [])

-- a list of which so few are taken is whole
few_whole : (most : ℕ) (all : List ℕ) → length (take most all) < most → length all < most
few_whole most all few = by (cases_lt (length all) most)
  where
    by : (length all < most) ⊎ (most ≤ length all) → length all < most
    by (inl l) = l
    by (inr g) = let e = length-take-le most all g in absurd (omega (arith, e, few))

full_long : (most : ℕ) (all : List ℕ) → most ≤ length (take most all) → most ≤ length all
full_long most all full = by (cases_lt (length all) most)
  where
    by : (length all < most) ⊎ (most ≤ length all) → most ≤ length all
    by (inr g) = g
    by (inl l) = let e = ap length (take_all most all (omega (arith, l))) in omega (arith, e, full)

module _ (most : ℕ) (test : ℕ → Bool) (net : ℕ) (old new : List ℕ) (so_far : old ≡ first_nets most test net) where
  -- there is room for one more, which passes
  pub first_more : length old < most → test net ≡ true → new ≡ old ++ net ∷ [] → new ≡ first_nets most test (net + 1)
  first_more room passes is =
      let all : List ℕ = filter test (range_with_len 0 net) in
      let few : length all < most = few_whole most all (subst (λ (l : List ℕ). length l < most) so_far room) in
      let grown : filter test (range_with_len 0 (net + 1)) ≡ all ++ net ∷ [] = filter_more test net ∙ ap (λ b. all ++ cond b (net ∷ []) []) passes in
      let whole : take most (all ++ net ∷ []) ≡ all ++ net ∷ [] = take_all most (all ++ net ∷ []) (let l = length-append all (net ∷ []) in omega (arith, few, l)) in
      is ∙ ap (λ l. l ++ net ∷ []) (so_far ∙ take_all most all (omega (arith, few))) ∙ sym (ap (take most) grown ∙ whole)

  -- this one fails
  pub first_same : test net ≡ false → new ≡ old → new ≡ first_nets most test (net + 1)
  first_same fails is =
      let all : List ℕ = filter test (range_with_len 0 net) in
      is ∙ so_far ∙ sym (ap (take most) (filter_more test net ∙ ap (λ b. all ++ cond b (net ∷ []) []) fails ∙ append-nil all))

  -- there are enough
  pub first_full : most ≤ length old → new ≡ old → new ≡ first_nets most test (net + 1)
  first_full full is =
      let all : List ℕ = filter test (range_with_len 0 net) in
      let long : most ≤ length all = full_long most all (subst (λ (l : List ℕ). most ≤ length l) so_far full) in
      is ∙ so_far ∙ sym (ap (take most) (filter_more test net) ∙ take-append-le most all (cond (test net) (net ∷ []) []) long)

-- of no nets none are found
pub first_none : (most : ℕ) (test : ℕ → Bool) → [] ≡ first_nets most test 0
first_none zero test = refl
first_none (suc most) test = refl

-- one net more
pub first_step : (most : ℕ) (test : ℕ → Bool) (net : ℕ) (old new : List ℕ) (passes : Bool) → old ≡ first_nets most test net → passes ≡ test net
    → new ≡ (if passes && nat_lt (length old) most then old ++ net ∷ [] else old) → new ≡ first_nets most test (net + 1)
first_step most test net old new passes so_far told is = by (test net) refl (nat_lt (length old) most) refl
  where
    by : (b : Bool) → test net ≡ b → (c : Bool) → nat_lt (length old) most ≡ c → new ≡ first_nets most test (net + 1)
    by true t true r = first_more most test net old new so_far (ltb-true (length old) most r) t (is ∙ rw (told, t, r) refl)
    by true t false r = first_full most test net old new so_far (ltb-false (length old) most r) (is ∙ rw (told, t, r) refl)
    by false t c r = first_same most test net old new so_far t (is ∙ rw (told, t) refl)

-- those that are found are nets
pub first_within : (most : ℕ) (test : ℕ → Bool) (count : ℕ) → All (λ net. net < count) (first_nets most test count)
first_within most test count =
    All-take (λ net. net < count) most (filter test (range_with_len 0 count)) (All-filter test (λ net. net < count) (range_with_len 0 count)
    (λ k d h. let l = length-range_with_len 0 count in let e = get_or-range_with_len 0 count k d (omega (arith, h, l)) in omega (arith, h, l, e)))

filter_same_from : (p q : ℕ → Bool) (from count : ℕ) → ((k : ℕ) → from ≤ k → k < from + count → p k ≡ q k) → filter p (range_with_len from count) ≡ filter q (range_with_len from count)
filter_same_from p q from zero same = refl
filter_same_from p q from (suc count) same =
    let rest : filter p (range_with_len (from + 1) count) ≡ filter q (range_with_len (from + 1) count)
    = filter_same_from p q (from + 1) count (λ k low high. same k (omega (arith, low)) (omega (arith, high))) in
    rw (same from (omega arith) (omega arith), rest) refl

-- tests that agree on nets find the same
pub first_by : (most : ℕ) (p q : ℕ → Bool) (count : ℕ) → ((net : ℕ) → net < count → p net ≡ q net) → first_nets most p count ≡ first_nets most q count
first_by most p q count same = ap (take most) (filter_same_from p q 0 count (λ k low high. same k (omega (arith, high))))
