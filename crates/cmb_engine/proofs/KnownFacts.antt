-- Words of which none is x anywhere, by the places that are 1.
use Rattle.std.proofs.Common.{◌≡◌, ℕ, zero, suc, ◌+◌, ◌-◌, ◌*◌, ◌/◌, ◌%◌, ◌^◌, ◌<◌, ◌≤◌, ◌≢◌, ◌⊎◌, inl, inr, List, [], ◌∷◌, length, min, get_or, set, refl, sym, ap, ap₂, ◌∙◌, arith, of_z, to_z, w64}
use Rattle.cmb_words.specs.declared.word.Word.{Word}
use Rattle.std.proofs.lemmas.Bool.{cases_lt, eqb-false, eqb-true, le-ltb}
use Rattle.std.proofs.lemmas.Int.{of_z-to_z, to_z_pos}
use Rattle.std.proofs.lemmas.Nat.{shr_le}
use Rattle.std.proofs.lemmas.Nat.Bits.{bit_at-lt, bit_at-zero, bit_at_above, bit_at_and, bit_at_not, bit_at_xor, same_from_bits}
use Rattle.std.specs.Prelude.{ℤ, negsuc, bit_and, bit_xor, false, true}
use Rattle.std.specs.Int.{bit_at, bit_not, int_shr}
use Rattle.cmb_words.specs.Bits.{is_set_at, level_in, level_of_bits}
use Rattle.cmb_words.specs.Word.{level_at_place}
use Rattle.cmb_words.proofs.BitFacts.{shl_high, shr_bit}
use Rattle.cmb_words.proofs.GateFacts.{is_known, known-level, level-known}
use Rattle.cmb_wave.specs.declared.level.Level.{Level}
use Rattle.cmb_wave.specs.declared.level.Level.TheVariants.{Zero, One, X}
use Rattle.cmb_engine.specs.Inner.Cells.{IsSteadyFrom}
use Rattle.cmb_engine.specs.Inner.Known.{known_levels, known_planes}
use Rattle.cmb_engine.specs.Inner.Planes.{Planes}

-- where a word has a known level, its first plane alone says it
pub by-ones : (word : Word) (i ones j : ℕ) → i < 64 → level_at_place word i ≡ level_in ones 0 j → level_in word.ones 0 i ≡ level_in ones 0 j
by-ones word i ones j small is = level-known word.ones word.unknown i (word.apart i small) (ap is_known is ∙ known-level ones j) ∙ is

-- what a read of a word tells
pub known-read : (words : List ℕ) (net place : ℕ) → net < length words → known_levels words net place ≡ level_in (get_or words net 0) 0 place
known-read [] net place h = absurd (omega arith)
known-read (w ∷ words) zero place h = refl
known-read (w ∷ words) (suc net) place h = known-read words net place (omega arith)

-- a word was written
pub known-same : (words : List ℕ) (net ones place : ℕ) → net < length words → known_levels (set words net ones) net place ≡ level_in ones 0 place
known-same [] net ones place h = absurd (omega arith)
known-same (w ∷ words) zero ones place h = refl
known-same (w ∷ words) (suc net) ones place h = known-same words net ones place (omega arith)

pub known-other : (words : List ℕ) (net other ones place : ℕ) → other ≢ net → known_levels (set words net ones) other place ≡ known_levels words other place
known-other [] net other ones place h = refl
known-other (w ∷ words) zero zero ones place h = absurd (h refl)
known-other (w ∷ words) zero (suc other) ones place h = refl
known-other (w ∷ words) (suc net) zero ones place h = refl
known-other (w ∷ words) (suc net) (suc other) ones place h = known-other words net other ones place (λ e. h (ap suc e))

-- there are as many words as ones
pub known-length : (words : List ℕ) → length (known_planes words) ≡ length words
known-length [] = refl
known-length (w ∷ words) = ap suc (known-length words)

-- a number below the number of words is one of the ones
pub known-inside : (words : List Planes) (ones : List ℕ) (slot : ℕ) → words ≡ known_planes ones → slot < length words → slot < length ones
known-inside words ones slot same inside = omega (arith, ap length same, known-length ones, inside)

-- a word was written that is as steady as it is
pub known-steady : (words : List ℕ) (net ones first : ℕ) → net < length words → IsSteadyFrom (level_in ones 0) first → IsSteadyFrom (known_levels (set words net ones) net) first
known-steady words net ones first inside steady place from small =
    known-same words net ones place inside ∙ steady place from small ∙ sym (known-same words net ones (first - 1) inside)

-- two words have the same level at a place of a mask, if none of its places has a bit of only one
pub masked-same : (a b mask i : ℕ) → bit_and (bit_xor a b) mask ≡ 0 → is_set_at mask i ≡ true → level_in a 0 i ≡ level_in b 0 i
unfolding level_in is_set_at
masked-same a b mask i none set =
    let e : bit_at a i ≡ bit_at b i =
    omega (arith, ap (λ (n : ℕ). bit_at n i) none, bit_at_and (bit_xor a b) mask i, bit_at_xor a b i, bit_at-zero i, eqb-true _ _ set, bit_at-lt a i, bit_at-lt b i) in
    ap (λ (n : ℕ). level_of_bits n (bit_at 0 i)) e

-- ---- the bits of a word beside those of the place before

abbrev pub turns : ℕ → ℕ
turns ones = bit_xor ones (ones * 2 ^ 1 % 2 ^ 64)

turns-bit : (ones i : ℕ) → 1 ≤ i → i < 64 → bit_at (turns ones) i ≡ (bit_at ones i + bit_at ones (i - 1)) % 2
turns-bit ones i some small = bit_at_xor ones (ones * 2 ^ 1 % 2 ^ 64) i ∙ ap (λ (n : ℕ). (bit_at ones i + n) % 2) (shl_high ones 1 i some small)

-- a mask has all places from one on, and the word turns at none of them
module _ (ones places first : ℕ) (none : bit_and (turns ones) places ≡ 0) (some : 1 ≤ first) (set : (i : ℕ) → first ≤ i → i < 64 → is_set_at places i ≡ true) where
  same-bit : (i : ℕ) → first ≤ i → i < 64 → bit_at ones i ≡ bit_at ones (i - 1)
  unfolding is_set_at
  same-bit i from small =
      omega (
        arith,
        ap (λ (n : ℕ). bit_at n i) none,
        bit_at_and (turns ones) places i,
        turns-bit ones i (omega (arith, some, from)) small,
        bit_at-zero i,
        eqb-true _ _ (set i from small),
        bit_at-lt ones i,
        bit_at-lt ones (i - 1),
      )

  same-bits : (i : ℕ) → first ≤ suc i → i < 64 → bit_at ones i ≡ bit_at ones (first - 1)
  same-bits i from small = go i from small (cases_lt i first)
    where
      go : (i : ℕ) → first ≤ suc i → i < 64 → (i < first) ⊎ (first ≤ i) → bit_at ones i ≡ bit_at ones (first - 1)
      go i from small (inl l) = ap (bit_at ones) (omega (arith, l, from))
      go zero from small (inr l) = absurd (omega (arith, l, some))
      go (suc i) from small (inr l) = same-bit (suc i) l small ∙ ap (bit_at ones) (let e : suc i - 1 ≡ i = omega arith in e) ∙ go i l (omega (arith, small)) (cases_lt i first)

  pub turns-steady : IsSteadyFrom (level_in ones 0) first
  unfolding level_in
  turns-steady place from inside = ap₂ level_of_bits (same-bits place (omega (arith, from)) inside) (bit_at-zero place ∙ sym (bit_at-zero (first - 1)))

-- a word that repeats the level before a place from there on turns at no place of a mask that has none before it
abbrev one_of : Level → ℕ
one_of Zero = 0
one_of One = 1
one_of X = 0

bit_of-level : (ones i : ℕ) → one_of (level_in ones 0 i) ≡ bit_at ones i
unfolding level_in
bit_of-level ones i = rw bit_at-zero (go (bit_at ones i) (bit_at-lt ones i))
  where
    go : (bit : ℕ) → bit < 2 → one_of (level_of_bits bit 0) ≡ bit
    go zero small = refl
    go (suc zero) small = refl
    go (suc (suc bit)) small = absurd (omega (arith, small))

module _ (ones places first : ℕ) (some : 1 ≤ first) (fits : places < 2 ^ 64) (unset : (i : ℕ) → i < first → is_set_at places i ≡ false) (steady : IsSteadyFrom (level_in ones 0) first) where
  level-before : (i : ℕ) → first ≤ suc i → i < 64 → (i < first) ⊎ (first ≤ i) → bit_at ones i ≡ bit_at ones (first - 1)
  level-before i from small (inl l) = ap (bit_at ones) (omega (arith, l, from))
  level-before i from small (inr l) = sym (bit_of-level ones i) ∙ ap one_of (steady i l small) ∙ bit_of-level ones (first - 1)

  none-turned : (i : ℕ) → (i < first) ⊎ (first ≤ i) → (i < 64) ⊎ (64 ≤ i) → bit_at (bit_and (turns ones) places) i ≡ 0
  unfolding is_set_at
  none-turned i (inl l) _ = omega (arith, bit_at_and (turns ones) places i, eqb-false _ _ (unset i l), bit_at-lt places i)
  none-turned i (inr l) (inl small) =
      omega (
        arith,
        bit_at_and (turns ones) places i,
        turns-bit ones i (omega (arith, some, l)) small,
        level-before i (omega (arith, l)) small (inr l),
        level-before (i - 1) (omega (arith, l)) (omega (arith, small)) (cases_lt (i - 1) first),
        bit_at-lt ones i,
      )
  none-turned i (inr l) (inr past) = omega (arith, bit_at_and (turns ones) places i, bit_at_above places 64 i fits past)

  pub steady-turns : bit_and (turns ones) places ≡ 0
  steady-turns = same_from_bits _ 0 (λ i. none-turned i (cases_lt i first) (cases_lt i 64) ∙ sym (bit_at-zero i))

-- ---- a shift that repeats the highest bit

shift-high : (n k i : ℕ) → n < 2 ^ 63 → i + k ≡ i + k → bit_at (n / 2 ^ k) i ≡ bit_at n (min (i + k) 63)
shift-high n k i fits e = go (cases_lt (i + k) 63)
  where
    go : (i + k < 63) ⊎ (63 ≤ i + k) → bit_at (n / 2 ^ k) i ≡ bit_at n (min (i + k) 63)
    go (inl l) = shr_bit n k i ∙ ap (bit_at n) (omega (arith, l))
    go (inr l) = shr_bit n k i ∙ bit_at_above n 63 (k + i) fits (omega (arith, l)) ∙ sym (bit_at_above n 63 (min (i + k) 63) fits (omega (arith, l)))

shifted-bit : (n k i : ℕ) → n < 2 ^ 64 → i < 64 → bit_at (of_z w64 (int_shr (to_z w64 n) k)) i ≡ bit_at n (min (i + k) 63)
shifted-bit n k i fits small = go (cases_lt n (2 ^ 63))
  where
    other : ℕ
    other = 2 ^ 64 - suc n

    go : (n < 2 ^ 63) ⊎ (2 ^ 63 ≤ n) → bit_at (of_z w64 (int_shr (to_z w64 n) k)) i ≡ bit_at n (min (i + k) 63)
    go (inl l) = rw (to_z_pos w64 n l) (shift-high n k i l refl)
    go (inr l) =
        let low : other < 2 ^ 63 = omega (arith, l, fits) in
        let is : other ≡ bit_not w64 n = omega (arith, fits) in
        let less = shr_le other k in
        let back : 2 ^ 64 - suc (other / 2 ^ k) ≡ bit_not w64 (other / 2 ^ k) = omega (arith, less, low) in
        let negative : to_z w64 n ≡ negsuc other = rw (le-ltb n (2 ^ 63) l) in
        let here = bit_at_not w64 (other / 2 ^ k) i (omega (arith, less, low)) small in
        let there = bit_at_not w64 n (min (i + k) 63) fits (omega arith) in
        rw negative
        (ap (λ (m : ℕ). bit_at m i) back ∙ here ∙ omega (arith, shift-high other k i low refl, ap (λ (m : ℕ). bit_at m (min (i + k) 63)) is, there, bit_at-lt n (min (i + k) 63)))

shifted-fits : (n k : ℕ) → n < 2 ^ 64 → of_z w64 (int_shr (to_z w64 n) k) < 2 ^ 64
shifted-fits n k fits = go (cases_lt n (2 ^ 63))
  where
    go : (n < 2 ^ 63) ⊎ (2 ^ 63 ≤ n) → of_z w64 (int_shr (to_z w64 n) k) < 2 ^ 64
    go (inl l) = let less = shr_le n k in rw (to_z_pos w64 n l) (omega (arith, less, fits))
    go (inr l) =
        let negative : to_z w64 n ≡ negsuc (2 ^ 64 - suc n) = rw (le-ltb n (2 ^ 63) l) in
        rw negative (omega arith)

pub shifted-level : (n k i result : ℕ) (z : ℤ) → n < 2 ^ 64 → i < 64 → z ≡ to_z w64 n
    → result ≡ of_z w64 (to_z w64 (of_z w64 (int_shr (to_z w64 (of_z w64 z)) k)))
    → level_in result 0 i ≡ level_in n 0 (min (i + k) 63)
unfolding level_in
shifted-level n k i result z fits small is shifted =
    ap₂ level_of_bits
    (ap (λ (m : ℕ). bit_at m i)
    (shifted ∙ ap (λ (m : ℕ). of_z w64 (to_z w64 (of_z w64 (int_shr (to_z w64 m) k)))) (ap (of_z w64) is ∙ of_z-to_z w64 n fits) ∙ of_z-to_z w64 (of_z w64 (int_shr (to_z w64 n) k)) (shifted-fits n k fits))
    ∙ shifted-bit n k i fits small)
    (bit_at-zero i ∙ sym (bit_at-zero (min (i + k) 63)))
