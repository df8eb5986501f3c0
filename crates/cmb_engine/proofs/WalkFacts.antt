-- What a walk over a set of numbers finds in the word that it is at.
use Rattle.std.proofs.Common.{◌≡◌, ℕ, ◌+◌, ◌-◌, ◌*◌, ◌/◌, ◌%◌, ◌^◌, ◌<◌, ◌≤◌, ◌⊎◌, inl, inr, false, List, length, get_or, refl, sym, ap, ◌∙◌, arith}
use Rattle.std.proofs.lemmas.Bool.{cases_lt, false≢true, eq-eqb}
use Rattle.std.proofs.lemmas.List.{get_or_past}
use Rattle.std.proofs.lemmas.Nat.Bits.{bit_at_and, bit_at-lt, bit_at-zero, same_from_bits_below, bit_at_mask_inside, bit_at_mask_below, ones_shl}
use Rattle.std.specs.Prelude.{bit_and}
use Rattle.std.specs.Int.{bit_at}
use Rattle.cmb_words.specs.Bits.{is_set_at, IsLowestSet}
use Rattle.cmb_words.proofs.BitFacts.{shl_high, shl_low}
use Rattle.cmb_engine.specs.Inner.Bits.{has, HasNone, IsNext, IsAhead}
use Rattle.cmb_engine.proofs.MarkFacts.{has-zero_word}

pub ahead-all : IsAhead 0 (2 ^ 64 - 1)
ahead-all = record { on = λ i from below. bit_at_mask_inside 0 64 i from below; off = λ i under below. absurd (omega arith) }

pub ahead-behind : (place : ℕ) → place < 64 → IsAhead (place + 1) ((2 ^ 64 - 1) * 2 ^ place % 2 ^ 64 * 2 ^ 1 % 2 ^ 64)
ahead-behind place small = record {
  on = λ i from below.
      shl_high ((2 ^ 64 - 1) * 2 ^ place % 2 ^ 64) 1 i (omega arith) below
      ∙ ap (λ m. bit_at m (i - 1)) (ones_shl 64 place (omega arith))
      ∙ bit_at_mask_inside place 64 (i - 1) (omega arith) (omega arith);
  off = λ i under below. first i under below (cases_lt i 1);
}
  where
    first : (i : ℕ) → i < place + 1 → i < 64 → (i < 1) ⊎ (1 ≤ i) → bit_at ((2 ^ 64 - 1) * 2 ^ place % 2 ^ 64 * 2 ^ 1 % 2 ^ 64) i ≡ 0
    first i under below (inl l) = shl_low ((2 ^ 64 - 1) * 2 ^ place % 2 ^ 64) 1 i l below
    first i under below (inr l) =
        shl_high ((2 ^ 64 - 1) * 2 ^ place % 2 ^ 64) 1 i l below
        ∙ ap (λ m. bit_at m (i - 1)) (ones_shl 64 place (omega arith))
        ∙ bit_at_mask_below place 64 (i - 1) (omega arith)

module _ (words : List ℕ) (w place ahead word : ℕ) (read : word ≡ get_or words w 0) (is : IsAhead place ahead) where
  -- from the place on a number is in the set just where the rest has its bit
  has_ahead : (m : ℕ) → 64 * w + place ≤ m → m < 64 * w + 64 → has words m ≡ is_set_at (bit_and word ahead) (m - 64 * w)
  unfolding has is_set_at
  has_ahead m from below =
      let bit : bit_at (bit_and word ahead) (m - 64 * w) ≡ bit_at word (m - 64 * w) =
      omega (arith, bit_at_and word ahead (m - 64 * w), is.on (m - 64 * w) (omega arith) (omega arith), bit_at-lt word (m - 64 * w)) in
      let at : m / 64 ≡ w = omega arith in
      let rest : m % 64 ≡ m - 64 * w = omega arith in
      rw (at, rest, bit, read) refl

  none_behind : (i : ℕ) → i < place → i < 64 → is_set_at (bit_and word ahead) i ≡ false
  unfolding is_set_at
  none_behind i under below =
      let bit : bit_at (bit_and word ahead) i ≡ 0 = omega (arith, bit_at_and word ahead i, is.off i under below) in
      rw bit refl

  pub walk-none : ((i : ℕ) → i < 64 → is_set_at (bit_and word ahead) i ≡ false) → HasNone words (64 * w + place) (64 * w + 64)
  walk-none none m from below = has_ahead m from below ∙ none (m - 64 * w) (omega arith)

  pub walk-some : (t : ℕ) → place ≤ 64 → IsLowestSet (bit_and word ahead) t → IsNext words (64 * w + place) (64 * w + t)
  walk-some t fits lowest =
      let above : place ≤ t = reached (cases_lt t place) in
      record {
        from = omega (arith, above);
        member = has_ahead (64 * w + t) (omega (arith, above)) (omega (arith, lowest.0)) ∙ ap (is_set_at (bit_and word ahead)) (let e : 64 * w + t - 64 * w ≡ t = omega arith in e) ∙ lowest.1;
        least = λ m from below. has_ahead m from (omega (arith, below, lowest.0)) ∙ lowest.2 (m - 64 * w) (omega (arith, from, below));
      }
    where
      reached : (t < place) ⊎ (place ≤ t) → place ≤ t
      reached (inl l) = absurd (false≢true (sym (none_behind t l lowest.0) ∙ lowest.1))
      reached (inr l) = l

-- a word none of whose bits is set is zero
pub walk-empty : (ahead word : ℕ) → IsAhead 0 ahead → word < 2 ^ 64 → ((i : ℕ) → i < 64 → is_set_at (bit_and word ahead) i ≡ false) → word ≡ 0
unfolding is_set_at
walk-empty ahead word is fits none = same_from_bits_below 64 word 0 fits (omega arith) (λ i below. bit i below ∙ sym (bit_at-zero i))
  where
    bit : (i : ℕ) → i < 64 → bit_at word i ≡ 0
    bit i below =
        let not_one : bit_at (bit_and word ahead) i ≡ 1 → ⊥ = λ one. false≢true (sym (none i below) ∙ eq-eqb (bit_at (bit_and word ahead) i) 1 one) in
        omega (arith, bit_at_and word ahead i, is.on i (omega arith) below, bit_at-lt word i, not_one)

-- past the last word there are no numbers
pub walk-past : (words : List ℕ) (w place : ℕ) → length words ≤ w → HasNone words (64 * w + place) (64 * w + 64)
walk-past words w place past m from below = has-zero_word words m (get_or_past words (m / 64) 0 (omega (arith, past, from)))
