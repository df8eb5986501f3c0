-- Flags by bytes.
use Rattle.std.proofs.Common.{◌≡◌, ℕ, zero, suc, ◌+◌, ◌-◌, ◌*◌, ◌/◌, ◌%◌, ◌^◌, ◌<◌, ◌≤◌, ◌⊎◌, inl, inr, true, false, not, ◌&&◌, ◌||◌, ◌==◌, List, length, get_or, set, replicate, take, drop, refl, sym, ap, ◌∙◌, arith}
use Rattle.std.proofs.lemmas.Bool.{cases_eq, cases_lt, eq-eqb, eqb-false, eqb-true, ne_eqb}
use Rattle.std.proofs.lemmas.List.{get_or-drop, get_or-replicate, get_or-set_other, get_or-set_same, get_or-take, get_or_past, length-drop, length-replicate, length-set, length-take}
use Rattle.std.proofs.lemmas.List.Elements.{All-get_or, All-set}
use Rattle.std.proofs.lemmas.Nat.{le_bytes_8}
use Rattle.std.proofs.lemmas.Nat.Bits.{bit_at-lt, bit_at-zero, bit_at_above, bit_at_lowest}
use Rattle.std.specs.Int.{bit_at, from_le_bytes, to_le_bytes, w64}
use Rattle.cmb_words.proofs.BitFacts.{mod_bit, shr_bit}
use Rattle.cmb_words.specs.Bits.{is_set_at, IsLowestSet}
use Rattle.cmb_engine.specs.Inner.Flags.{is_flagged, AreFlags, Clears, IsNextFlag, NoFlags, Sets}

-- a flag whose byte is zero isn't set
pub flag-zero : (flags : List ℕ) (k : ℕ) → get_or flags k 0 ≡ 0 → is_flagged flags k ≡ false
unfolding is_flagged
flag-zero flags k none = rw none refl

-- of zeros no flag is set
pub flag-none : (n k : ℕ) → is_flagged (replicate n 0) k ≡ false
flag-none n k = flag-zero (replicate n 0) k (go (cases_lt k n))
  where
    go : (k < n) ⊎ (n ≤ k) → get_or {A = ℕ} (replicate n 0) k 0 ≡ 0
    go (inl less) = get_or-replicate n k 0 0 less
    go (inr more) = get_or_past (replicate n 0) k 0 (omega (arith, length-replicate {A = ℕ} n 0, more))

-- a bit that isn't 1 is 0
bit-clear : (n i : ℕ) → (bit_at n i == 1) ≡ false → bit_at n i ≡ 0
bit-clear n i off = go (cases_eq (bit_at n i) 1)
  where
    go : (bit_at n i ≡ 1) ⊎ (bit_at n i ≡ 1 → ⊥) → bit_at n i ≡ 0
    go (inl one) = absurd (eqb-false _ _ off one)
    go (inr other) = omega (arith, bit_at-lt n i, other)

-- ---- a byte is written

pub sets : (flags : List ℕ) (k : ℕ) → k < length flags → Sets flags (set flags k 1) k
unfolding is_flagged
sets flags k room = record { len = length-set flags k 1; members = λ m. at m (cases_eq m k) }
  where
    at : (m : ℕ) → (m ≡ k) ⊎ (m ≡ k → ⊥) → is_flagged (set flags k 1) m ≡ (m == k || is_flagged flags m)
    at m (inl e) =
        let here : (m == k) ≡ true = eq-eqb m k e in
        rw (here, e, get_or-set_same flags k 1 0 room) refl
    at m (inr e) =
        let here : (m == k) ≡ false = ne_eqb m k e in
        rw (here, get_or-set_other flags k m 1 0 e) refl

pub clears : (flags : List ℕ) (k : ℕ) → k < length flags → Clears flags (set flags k 0) k
unfolding is_flagged
clears flags k room = record { len = length-set flags k 0; members = λ m. at m (cases_eq m k) }
  where
    at : (m : ℕ) → (m ≡ k) ⊎ (m ≡ k → ⊥) → is_flagged (set flags k 0) m ≡ (not (m == k) && is_flagged flags m)
    at m (inl e) =
        let here : (m == k) ≡ true = eq-eqb m k e in
        rw (here, e, get_or-set_same flags k 0 0 room) refl
    at m (inr e) =
        let here : (m == k) ≡ false = ne_eqb m k e in
        rw (here, get_or-set_other flags k m 0 0 e) refl

-- what a byte below two is written to stays flags
pub are_flags_set : (groups : ℕ) (flags : List ℕ) (k byte : ℕ) → byte < 2 → AreFlags groups flags → AreFlags groups (set flags k byte)
are_flags_set groups flags k byte small are = record { len = length-set flags k byte ∙ are.len; small = All-set (λ b. b < 2) flags k byte small are.small }

-- ---- eight bytes as one number

byte_of : (n k : ℕ) → k < 8 → get_or (to_le_bytes w64 n) k 0 ≡ n / 2 ^ (8 * k) % 2 ^ 8
byte_of n zero _ = omega arith
byte_of n (suc zero) _ = refl
byte_of n (suc (suc zero)) _ = refl
byte_of n (suc (suc (suc zero))) _ = refl
byte_of n (suc (suc (suc (suc zero)))) _ = refl
byte_of n (suc (suc (suc (suc (suc zero))))) _ = refl
byte_of n (suc (suc (suc (suc (suc (suc zero)))))) _ = refl
byte_of n (suc (suc (suc (suc (suc (suc (suc zero))))))) _ = refl
byte_of n (suc (suc (suc (suc (suc (suc (suc (suc k)))))))) h = absurd (omega (arith, h))

-- bit i of the number is bit i % 8 of byte i / 8
pub bytes-bits : (bytes : List ℕ) (n : ℕ) → length bytes ≡ 8 → ((k : ℕ) → get_or bytes k 0 < 256) → n ≡ from_le_bytes w64 bytes
    → (i : ℕ) → i < 64 → bit_at n i ≡ bit_at (get_or bytes (i / 8) 0) (i % 8)
bytes-bits bytes n len small is i inside =
    let byte : n / 2 ^ (8 * (i / 8)) % 2 ^ 8 ≡ get_or bytes (i / 8) 0 =
    sym (byte_of n (i / 8) (omega (arith, inside))) ∙ ap (λ b. get_or b (i / 8) 0) (le_bytes_8 bytes n len small is) in
    let split : i ≡ 8 * (i / 8) + i % 8 = omega arith in
    ap (bit_at n) split ∙ sym (shr_bit n (8 * (i / 8)) (i % 8)) ∙ sym (mod_bit (n / 2 ^ (8 * (i / 8))) 8 (i % 8) (omega arith))
    ∙ ap (λ b. bit_at b (i % 8)) byte

-- the same of a group of a list of flags
pub group-bits : (groups number n : ℕ) (flags : List ℕ) → AreFlags groups flags → 8 * number + 8 ≤ length flags
    → n ≡ from_le_bytes w64 (take (8 * number + 8 - 8 * number) (drop (8 * number) flags))
    → (i : ℕ) → i < 64 → bit_at n i ≡ bit_at (get_or flags (8 * number + i / 8) 0) (i % 8)
group-bits groups number n flags are room is i inside =
    bytes-bits eight n count small is i inside ∙ ap (λ b. bit_at b (i % 8)) (at (i / 8) (omega (arith, inside)))
  where
    eight : List ℕ
    eight = take (8 * number + 8 - 8 * number) (drop (8 * number) flags)

    at : (k : ℕ) → k < 8 → get_or eight k 0 ≡ get_or flags (8 * number + k) 0
    at k less = get_or-take (8 * number + 8 - 8 * number) (drop (8 * number) flags) k 0 (omega (arith, less)) ∙ get_or-drop (8 * number) flags k 0

    count : length eight ≡ 8
    count = omega (arith, room, length-take (8 * number + 8 - 8 * number) (drop (8 * number) flags), length-drop (8 * number) flags)

    small : (k : ℕ) → get_or eight k 0 < 256
    small k = go (cases_lt k 8)
      where
        go : (k < 8) ⊎ (8 ≤ k) → get_or eight k 0 < 256
        go (inl less) = omega (arith, at k less, All-get_or (λ b. b < 2) flags (8 * number + k) 0 (omega (arith, less, room)) are.small)
        go (inr more) = omega (arith, get_or_past eight k 0 (omega (arith, count, more)))

-- ---- the flags of a group

module _ (groups number v : ℕ) (flags : List ℕ) (are : AreFlags groups flags) (room : 8 * number + 8 ≤ length flags) (fits : v < 2 ^ 64)
    (is : (i : ℕ) → i < 64 → bit_at v i ≡ bit_at (get_or flags (8 * number + i / 8) 0) (i % 8)) where
  clear-flag : (k : ℕ) → k < 8 → bit_at v (8 * k) ≡ 0 → is_flagged flags (8 * number + k) ≡ false
  clear-flag k less none =
      let place : 8 * k / 8 ≡ k = omega arith in
      let bit : 8 * k % 8 ≡ 0 = omega arith in
      let same : bit_at v (8 * k) ≡ bit_at (get_or flags (8 * number + k) 0) 0 = rw (place, bit) at (is (8 * k) (omega (arith, less))) in
      let small : get_or flags (8 * number + k) 0 < 2 = All-get_or (λ b. b < 2) flags (8 * number + k) 0 (omega (arith, less, room)) are.small in
      flag-zero flags (8 * number + k) (omega (arith, sym same ∙ none, bit_at_lowest (get_or flags (8 * number + k) 0), small))

  set-flag : (i : ℕ) → i < 64 → bit_at v i ≡ 1 → is_flagged flags (8 * number + i / 8) ≡ true
  unfolding is_flagged
  set-flag i inside one =
      let some : get_or flags (8 * number + i / 8) 0 ≡ 0 → ⊥ =
      λ none. absurd (omega (arith, one, is i inside, ap (λ b. bit_at b (i % 8)) none, bit_at-zero (i % 8))) in
      ap not (ne_eqb _ _ some)

  pub next-none : (place : ℕ) → place < 8 → ((i : ℕ) → i < 64 → is_set_at (v / 2 ^ (8 * place)) i ≡ false)
      → NoFlags flags (8 * number + place) (8 * number + 8)
  unfolding is_set_at
  next-none place less none k from below =
      let k_is : k ≡ 8 * number + (k - 8 * number) = omega (arith, from) in
      let at : 8 * (k - 8 * number) ≡ 8 * place + 8 * (k - 8 * number - place) = omega (arith, from) in
      let bit : bit_at v (8 * (k - 8 * number)) ≡ bit_at (v / 2 ^ (8 * place)) (8 * (k - 8 * number - place)) =
      ap (bit_at v) at ∙ sym (shr_bit v (8 * place) (8 * (k - 8 * number - place))) in
      let clear : bit_at (v / 2 ^ (8 * place)) (8 * (k - 8 * number - place)) ≡ 0 =
      bit-clear (v / 2 ^ (8 * place)) (8 * (k - 8 * number - place)) (none (8 * (k - 8 * number - place)) (omega (arith, below, from))) in
      ap (is_flagged flags) k_is ∙ clear-flag (k - 8 * number) (omega (arith, below)) (bit ∙ clear)

  pub next-some : (place bit : ℕ) → place < 8 → IsLowestSet (v / 2 ^ (8 * place)) bit → IsNextFlag flags (8 * number + place) (8 * number + place + bit / 8)
  unfolding is_set_at
  next-some place bit less lowest = record {
    from = omega arith;
    member = ap (is_flagged flags) found ∙ set-flag (8 * place + bit) inside one;
    least = λ k from below. before k from below;
  }
    where
      one : bit_at v (8 * place + bit) ≡ 1
      one = sym (shr_bit v (8 * place) bit) ∙ eqb-true _ _ lowest.1

      inside : 8 * place + bit < 64
      inside = go (cases_lt (8 * place + bit) 64)
        where
          go : (8 * place + bit < 64) ⊎ (64 ≤ 8 * place + bit) → 8 * place + bit < 64
          go (inl l) = l
          go (inr l) = absurd (omega (arith, one, bit_at_above v 64 (8 * place + bit) fits l))

      found : 8 * number + place + bit / 8 ≡ 8 * number + (8 * place + bit) / 8
      found = omega arith

      before : (k : ℕ) → 8 * number + place ≤ k → k < 8 * number + place + bit / 8 → is_flagged flags k ≡ false
      before k from below =
          let k_is : k ≡ 8 * number + (k - 8 * number) = omega (arith, from) in
          let at : 8 * (k - 8 * number) ≡ 8 * place + 8 * (k - 8 * number - place) = omega (arith, from) in
          let same : bit_at v (8 * (k - 8 * number)) ≡ bit_at (v / 2 ^ (8 * place)) (8 * (k - 8 * number - place)) =
          ap (bit_at v) at ∙ sym (shr_bit v (8 * place) (8 * (k - 8 * number - place))) in
          let clear : bit_at (v / 2 ^ (8 * place)) (8 * (k - 8 * number - place)) ≡ 0 =
          bit-clear (v / 2 ^ (8 * place)) (8 * (k - 8 * number - place)) (lowest.2 (8 * (k - 8 * number - place)) (omega (arith, below, from))) in
          ap (is_flagged flags) k_is ∙ clear-flag (k - 8 * number) (omega (arith, below, from, inside)) (same ∙ clear)
