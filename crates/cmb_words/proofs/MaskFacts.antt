-- The set places of a mask.
use Rattle.std.proofs.Common.{◌≡◌, ◌≢◌, ℕ, zero, suc, ◌+◌, ◌-◌, ◌*◌, ◌/◌, ◌%◌, ◌^◌, ◌<◌, ◌≤◌, [], ◌∷◌, true, false, refl, sym, ap, ◌∙◌, ⊎_elim, arith, w64, div-add-mod', mod-lt, pow_pos, le_refl, true≢false, List, All, Contains, Bool, if◌then◌else◌}
use Rattle.std.specs.Prelude.{bit_and, ◌==◌}
use Rattle.std.specs.Int.{bit_at, trailing_zeros}
use Rattle.std.proofs.lemmas.Bool.{cases_lt}
use Rattle.std.proofs.lemmas.Nat.{and_le_r}
use Rattle.std.proofs.lemmas.Nat.Bits.{bit_at_and, bit_at_cat_low, bit_at_cat_high, bit_at_above, bit_at_ones_above, bit_at-pow_same, bit_at-pow_other, bit_at-trailing_zeros, same_from_bits}
use Rattle.std.proofs.Math.Nat.{two-pow-succ}
use Rattle.cmb_words.specs.Bits.{is_set_at, places_in, places_set, IsLowestSet}
use Rattle.cmb_words.proofs.LevelFacts.{none_set}
use Rattle.cmb_words.proofs.BitFacts.{mod_bit}
use Rattle.std.specs.List.{AllByRecursion}
use Rattle.std.proofs.lemmas.List.Elements.{All-from_recursion, Contains-append_left, Contains-append_right, Contains-push}

places_in-none : (from count : ℕ) → places_in 0 from count ≡ []
unfolding places_in
places_in-none from zero = refl
places_in-none from (suc count) = rw none_set (places_in-none (suc from) count)

pub places_set-none : places_set 0 ≡ []
unfolding places_set
places_set-none = places_in-none 0 64

same_places : (n m from count : ℕ) → ((i : ℕ) → from ≤ i → is_set_at n i ≡ is_set_at m i) → places_in n from count ≡ places_in m from count
unfolding places_in
same_places n m from zero h = refl
same_places n m from (suc count) h =
    let tail : places_in n (suc from) count ≡ places_in m (suc from) count = same_places n m (suc from) count (λ i above. h i (omega arith)) in
    rw (h from (le_refl from), tail)

-- two masks that differ in the first one's lowest place
module _ (n m t : ℕ) (one : is_set_at n t ≡ true) (gone : is_set_at m t ≡ false)
    (low : (i : ℕ) → i < t → is_set_at n i ≡ false)
    (other : (i : ℕ) → i ≢ t → is_set_at m i ≡ is_set_at n i) where
  lowest_place : (from count : ℕ) → from ≤ t → t < from + count → places_in n from count ≡ t ∷ places_in m from count
  unfolding places_in
  lowest_place from zero le lt = absurd (omega arith)
  lowest_place from (suc count) le lt =
      ⊎_elim
      (λ below.
      let low_m : is_set_at m from ≡ false = other from (λ e. absurd (omega arith)) ∙ low from below in
      rw (low from below, low_m) (lowest_place (suc from) count (omega arith) (omega arith)))
      (λ at. let e : from ≡ t = omega arith in
      let tail : places_in n (suc t) count ≡ places_in m (suc t) count = same_places n m (suc t) count (λ i above. sym (other i (λ e. absurd (omega arith)))) in
      rw (e, one, gone, tail))
      (cases_lt from t)

  pub lowest_first : t < 64 → places_set n ≡ t ∷ places_set m
  unfolding places_set
  lowest_first small = lowest_place 0 64 (omega arith) (omega arith)

module _ (n t : ℕ) (one : bit_at n t ≡ 1) (low : (i : ℕ) → i < t → bit_at n i ≡ 0) where
  -- the bits of n up to t are 2 ^ t
  lowest_part : n % 2 ^ suc t ≡ 2 ^ t
  lowest_part =
      same_from_bits _ _ (λ i.
      ⊎_elim
      (λ below. mod_bit n (suc t) i (omega arith) ∙ low i below ∙ sym (bit_at-pow_other t i (omega arith)))
      (λ from.
      ⊎_elim
      (λ above.
      let small : 2 ^ t < 2 ^ suc t = omega (arith, two-pow-succ t, pow_pos t) in
      bit_at_above _ (suc t) i (mod-lt n (pow_pos (suc t))) (omega arith) ∙ sym (bit_at_above (2 ^ t) (suc t) i small (omega arith)))
      (λ at. let e : i ≡ t = omega arith in rw e (mod_bit n (suc t) t (omega arith) ∙ one ∙ sym (bit_at-pow_same t)))
      (cases_lt t i))
      (cases_lt i t))

  whole : n ≡ n / 2 ^ suc t * 2 ^ suc t + 2 ^ t
  whole = sym (div-add-mod' n (2 ^ suc t)) ∙ ap (λ m. n / 2 ^ suc t * 2 ^ suc t + m) lowest_part

  before : n - 1 ≡ n / 2 ^ suc t * 2 ^ suc t + (2 ^ t - 1)
  before = omega (arith, whole, pow_pos t)

  rest_at : bit_at (bit_and n (n - 1)) t ≡ 0
  rest_at =
      let none : bit_at (n - 1) t ≡ 0 = ap (λ m. bit_at m t) before ∙ bit_at_cat_low (n / 2 ^ suc t) (suc t) (2 ^ t - 1) t (omega arith) ∙ bit_at_ones_above t t (le_refl t) in
      omega (arith, bit_at_and n (n - 1) t, none)

  rest_low : (i : ℕ) → i < t → bit_at (bit_and n (n - 1)) i ≡ bit_at n i
  rest_low i below = omega (arith, bit_at_and n (n - 1) i, low i below)

  rest_high : (i : ℕ) → t < i → bit_at (bit_and n (n - 1)) i ≡ bit_at n i
  rest_high i above =
      let room : 2 ^ t < 2 ^ suc t = omega (arith, two-pow-succ t, pow_pos t) in
      let a : bit_at n i ≡ bit_at (n / 2 ^ suc t) (i - suc t) = ap (λ m. bit_at m i) whole ∙ bit_at_cat_high (n / 2 ^ suc t) (suc t) (2 ^ t) i room (omega arith) in
      let b : bit_at (n - 1) i ≡ bit_at (n / 2 ^ suc t) (i - suc t) = ap (λ m. bit_at m i) before ∙ bit_at_cat_high (n / 2 ^ suc t) (suc t) (2 ^ t - 1) i (omega arith) (omega arith) in
      omega (arith, bit_at_and n (n - 1) i, a, b)

-- The lowest place of a mask that isn't empty, and the mask without it.
pub record IsLowest (n t rest : ℕ) : Type 0 where
  pub inside : t < 64
  pub one : is_set_at n t ≡ true
  pub low : (i : ℕ) → i < t → is_set_at n i ≡ false
  pub gone : is_set_at rest t ≡ false
  pub other : (i : ℕ) → i ≢ t → is_set_at rest i ≡ is_set_at n i

pub is_lowest : (n : ℕ) → 0 < n → n < 2 ^ 64 → IsLowest n (trailing_zeros w64 n) (bit_and n (n - 1))
unfolding is_set_at
is_lowest n some fits =
    let t : ℕ = trailing_zeros w64 n in
    let h = bit_at-trailing_zeros w64 n some fits in
    record {
      inside = h.0;
      one = rw h.1;
      low = λ i below. ap (λ b. b == 1) (h.2 i below);
      gone = ap (λ b. b == 1) (rest_at n t h.1 h.2);
      other = λ i apart. ap (λ b. b == 1)
          (⊎_elim
          (λ below. rest_low n t h.1 h.2 i below)
          (λ from. rest_high n t h.1 h.2 i (let above : t < i = omega arith in above))
          (cases_lt i t));
    }

pub next_place : (n : ℕ) → 0 < n → n < 2 ^ 64 → places_set n ≡ trailing_zeros w64 n ∷ places_set (bit_and n (n - 1))
next_place n some fits =
    let h = is_lowest n some fits in
    lowest_first n (bit_and n (n - 1)) (trailing_zeros w64 n) h.one h.gone h.low h.other h.inside

pub rest_smaller : (n : ℕ) → 0 < n → bit_and n (n - 1) < n
rest_smaller n some = omega (arith, and_le_r n (n - 1))

-- there is one lowest place
same_lowest : (n t rest place : ℕ) → IsLowest n t rest → IsLowestSet n place → place ≡ t
same_lowest n t rest place h k =
    ⊎_elim
    (λ below. absurd (true≢false (sym k.1 ∙ h.low place below)))
    (λ from.
    ⊎_elim
    (λ above. absurd (true≢false (sym h.one ∙ k.2 t above)))
    (λ at. let e : place ≡ t = omega arith in e)
    (cases_lt t place))
    (cases_lt place t)

module _ (n place : ℕ) (some : 0 < n) (fits : n < 2 ^ 64) (lowest : IsLowestSet n place) where
  h : IsLowest n (trailing_zeros w64 n) (bit_and n (n - 1))
  h = is_lowest n some fits

  at : place ≡ trailing_zeros w64 n
  at = same_lowest n (trailing_zeros w64 n) (bit_and n (n - 1)) place h lowest

  pub lowest_gone : is_set_at (bit_and n (n - 1)) place ≡ false
  unfolding h
  lowest_gone = ap (is_set_at (bit_and n (n - 1))) at ∙ h.gone

  pub others_stay : (i : ℕ) → i ≢ place → is_set_at (bit_and n (n - 1)) i ≡ is_set_at n i
  others_stay i apart = h.other i (λ e. apart (e ∙ sym at))

-- ---- what the list of places holds

module _ (n : ℕ) where
  IsSetPlace : ℕ → Type 0
  IsSetPlace place = (place < 64) × (is_set_at n place ≡ true)

  each_with : (from : ℕ) (rest : List ℕ) (b : Bool) → from < 64 → is_set_at n from ≡ b → AllByRecursion IsSetPlace rest
      → AllByRecursion IsSetPlace (if b then from ∷ rest else rest)
  unfolding IsSetPlace
  each_with from rest true small e r = ((small, e), r)
  each_with from rest false small e r = r

  each_in : (from count : ℕ) → from + count ≤ 64 → AllByRecursion IsSetPlace (places_in n from count)
  unfolding places_in
  each_in from zero fits = tt
  each_in from (suc count) fits =
      each_with from (places_in n (suc from) count) (is_set_at n from) (omega arith) refl (each_in (suc from) count (omega arith))

  pub places-each : All (λ place. (place < 64) × (is_set_at n place ≡ true)) (places_set n)
  unfolding places_set IsSetPlace
  places-each = All-from_recursion IsSetPlace (places_in n 0 64) (each_in 0 64 (omega arith))

  tail_with : (from place : ℕ) (rest : List ℕ) (b : Bool) → Contains rest place → Contains (if b then from ∷ rest else rest) place
  tail_with from place rest true h = Contains-append_right (from ∷ []) rest place h
  tail_with from place rest false h = h

  all_in : (from count place : ℕ) → from ≤ place → place < from + count → is_set_at n place ≡ true → Contains (places_in n from count) place
  unfolding places_in
  all_in from zero place le lt one = absurd (omega arith)
  all_in from (suc count) place le lt one =
      ⊎_elim
      (λ below. tail_with from place (places_in n (suc from) count) (is_set_at n from) (all_in (suc from) count place (omega arith) (omega arith) one))
      (λ at. let e : from ≡ place = omega arith in
      rw (e, one) (Contains-append_left (place ∷ []) (places_in n (suc place) count) place (Contains-push [] place)))
      (cases_lt from place)

  pub places-all : (place : ℕ) → place < 64 → is_set_at n place ≡ true → Contains (places_set n) place
  unfolding places_set
  places-all place small one = all_in 0 64 place (omega arith) (omega arith) one
