-- What writes to a word do to a set of numbers by bits.
use Rattle.std.proofs.Common.{◌≡◌, ℕ, ◌*◌, ◌/◌, ◌%◌, ◌^◌, ◌<◌, ◌≤◌, ◌≢◌, ◌⊎◌, inl, inr, true, false, not, ◌&&◌, ◌||◌, ◌==◌, List, length, get_or, set, replicate, refl, sym, ap, subst, ◌∙◌, arith, w64, ◌+◌, ◌-◌, min, ap₂, Bool}
use Rattle.std.proofs.lemmas.Bool.{cases_eq, cases_lt, eq-eqb, eqb-true, false≢true, ne_eqb}
use Rattle.std.proofs.lemmas.List.{get_or-set_same, get_or-set_other, get_or-replicate, get_or_past, length-replicate, length-set, get_or_read}
use Rattle.std.proofs.lemmas.Nat.{and_le_l}
use Rattle.std.proofs.lemmas.Nat.Bits.{bit_at-lt, bit_at-zero, bit_at_and, bit_at_not, bit_at_set_same, bit_at_set_other}
use Rattle.std.specs.Prelude.{bit_and, bit_or}
use Rattle.std.specs.Int.{bit_at, bit_not}
use Rattle.cmb_words.specs.Bits.{is_set_at}
use Rattle.cmb_engine.specs.Inner.Batches.{IsSetAt}
use Rattle.cmb_engine.specs.Inner.Bits.{has, Inserts, Lessens}
use Rattle.cmb_engine.specs.Shares.{is_told}

-- a set of told nets is one of numbers
pub told-has : (set_is : List ℕ) (n : ℕ) → is_told set_is n ≡ has set_is n
unfolding is_told has is_set_at
told-has set_is n = refl

-- two numbers with one word and one bit are one
same_number : (m n : ℕ) → m / 64 ≡ n / 64 → m % 64 ≡ n % 64 → m ≡ n
same_number m n h k = omega arith

pub has-none : (count m : ℕ) → has (replicate count 0) m ≡ false
unfolding has
has-none count m = go (cases_lt (m / 64) count)
  where
    go : (m / 64 < count) ⊎ (count ≤ m / 64) → has (replicate count 0) m ≡ false
    go (inl l) = ap (λ (word : ℕ). bit_at word (m % 64) == 1) (get_or-replicate {A = ℕ} count (m / 64) 0 0 l) ∙ ap (λ (b : ℕ). b == 1) (bit_at-zero (m % 64))
    go (inr l) =
        ap (λ (word : ℕ). bit_at word (m % 64) == 1) (get_or_past {X = ℕ} (replicate count 0) (m / 64) 0 (omega (arith, length-replicate {A = ℕ} count 0))) ∙ ap (λ (b : ℕ). b == 1) (bit_at-zero (m % 64))

module _ (words : List ℕ) (n : ℕ) (room : n / 64 < length words) where
  pub has-insert : (m : ℕ) → has (set words (n / 64) (bit_or (get_or words (n / 64) 0) (1 * 2 ^ (n % 64) % 2 ^ 64))) m ≡ (m == n || has words m)
  unfolding has
  has-insert m = go (cases_eq (m / 64) (n / 64)) (cases_eq (m % 64) (n % 64))
    where
      go : (m / 64 ≡ n / 64) ⊎ (m / 64 ≡ n / 64 → ⊥) → (m % 64 ≡ n % 64) ⊎ (m % 64 ≡ n % 64 → ⊥)
          → (bit_at (get_or (set words (n / 64) (bit_or (get_or words (n / 64) 0) (1 * 2 ^ (n % 64) % 2 ^ 64))) (m / 64) 0) (m % 64) == 1) ≡ (m == n || (bit_at (get_or words (m / 64) 0) (m % 64) == 1))
      go (inl h) (inl k) =
          let here : (m == n) ≡ true = eq-eqb m n (same_number m n h k) in
          let bit : bit_at (bit_or (get_or words (n / 64) 0) (1 * 2 ^ (n % 64) % 2 ^ 64)) (n % 64) ≡ 1 = bit_at_set_same w64 (get_or words (n / 64) 0) (n % 64) (omega arith) in
          rw (here, h, k, get_or-set_same words (n / 64) (bit_or (get_or words (n / 64) 0) (1 * 2 ^ (n % 64) % 2 ^ 64)) 0 room, bit) refl
      go (inl h) (inr k) =
          let here : (m == n) ≡ false = ne_eqb m n (λ e. k (ap (λ i. i % 64) e)) in
          let bit : bit_at (bit_or (get_or words (n / 64) 0) (1 * 2 ^ (n % 64) % 2 ^ 64)) (m % 64) ≡ bit_at (get_or words (n / 64) 0) (m % 64) =
          bit_at_set_other w64 (get_or words (n / 64) 0) (n % 64) (omega arith) (m % 64) k in
          rw (here, h, get_or-set_same words (n / 64) (bit_or (get_or words (n / 64) 0) (1 * 2 ^ (n % 64) % 2 ^ 64)) 0 room, bit) refl
      go (inr h) _ =
          let here : (m == n) ≡ false = ne_eqb m n (λ e. h (ap (λ i. i / 64) e)) in
          rw (here, get_or-set_other words (n / 64) (m / 64) (bit_or (get_or words (n / 64) 0) (1 * 2 ^ (n % 64) % 2 ^ 64)) 0 h) refl

-- a word with a bit set isn't zero
pub set-some : (word k : ℕ) → k < 64 → bit_or word (1 * 2 ^ k % 2 ^ 64) ≢ 0
set-some word k small none = omega (arith, bit_at_set_same w64 word k small, ap (λ w. bit_at w k) none, bit_at-zero k)

pub inserts : (words : List ℕ) (n : ℕ) → n / 64 < length words → Inserts words (set words (n / 64) (bit_or (get_or words (n / 64) 0) (1 * 2 ^ (n % 64) % 2 ^ 64))) n
inserts words n room =
    record {
      len = length-set words (n / 64) _;
      members = has-insert words n room;
      others = λ k other. get_or-set_other words (n / 64) k _ 0 other;
      some = λ none. set-some (get_or words (n / 64) 0) (n % 64) (omega arith) (sym (get_or-set_same words (n / 64) _ 0 room) ∙ none);
    }

-- ---- the same at a word that was read

module _ (words set_is : List ℕ) (view : words ≡ set_is) (n word : ℕ) (read : word ≡ get_or words (n / 64) word) (room : n < 64 * length set_is) where
  room_is : n < 64 * length words
  room_is = subst (λ (s : List ℕ). n < 64 * length s) (sym view) room

  read_is : word ≡ get_or words (n / 64) 0
  read_is = get_or_read words (n / 64) word (omega (arith, room_is)) read 0

  pub read-inserts : Inserts set_is (set words (n / 64) (bit_or word (1 * 2 ^ (n % 64) % 2 ^ 64))) n
  read-inserts =
      subst (λ (s : List ℕ). Inserts s (set words (n / 64) (bit_or word (1 * 2 ^ (n % 64) % 2 ^ 64))) n) view
      (subst (λ (w : ℕ). Inserts words (set words (n / 64) (bit_or w (1 * 2 ^ (n % 64) % 2 ^ 64))) n) (sym read_is) (inserts words n (omega (arith, room_is))))

-- ---- some places of a word are taken out

module _ (words set_is : List ℕ) (view : words ≡ set_is) (k word mask : ℕ) (read : word ≡ get_or words k word) (room : k < length set_is) (fits : mask < 2 ^ 64) where
  inside : k < length words
  inside = subst (λ (s : List ℕ). k < length s) (sym view) room

  word_is : word ≡ get_or words k 0
  word_is = get_or_read words k word inside read 0

  pub take-less : Lessens set_is (set words k (bit_and word (bit_not w64 mask))) k
  take-less = subst (λ (s : List ℕ). Lessens s (set words k (bit_and word (bit_not w64 mask))) k) view (record {
    len = length-set words k (bit_and word (bit_not w64 mask));
    others = λ other differs. get_or-set_other words k other _ 0 differs;
    less = omega (arith, get_or-set_same words k (bit_and word (bit_not w64 mask)) 0 inside, and_le_l word (bit_not w64 mask), word_is);
  })

  bit-cleared : (a b : ℕ) → a < 2 → b < 2 → (min a (1 - b) == 1) ≡ (not (b == 1) && (a == 1))
  bit-cleared a b x y = go (cases_eq a 1) (cases_eq b 1)
    where
      go : (a ≡ 1) ⊎ (a ≡ 1 → ⊥) → (b ≡ 1) ⊎ (b ≡ 1 → ⊥) → (min a (1 - b) == 1) ≡ (not (b == 1) && (a == 1))
      go (inl h) (inl k) = rw (h, k) refl
      go (inl h) (inr k) = let z : b ≡ 0 = omega (arith, y, k) in rw (h, z) refl
      go (inr h) (inl k) = let z : a ≡ 0 = omega (arith, x, h) in rw (z, k) refl
      go (inr h) (inr k) = let z : a ≡ 0 = omega (arith, x, h) in let w : b ≡ 0 = omega (arith, y, k) in rw (z, w) refl

  pub take-members : (m : ℕ) → has (set words k (bit_and word (bit_not w64 mask))) m ≡ (not (m / 64 == k && is_set_at mask (m % 64)) && has set_is m)
  unfolding has is_set_at
  take-members m = go (cases_eq (m / 64) k)
    where
      same : (bit_at (get_or words (m / 64) 0) (m % 64) == 1) ≡ (bit_at (get_or set_is (m / 64) 0) (m % 64) == 1)
      same = ap (λ (ws : List ℕ). bit_at (get_or ws (m / 64) 0) (m % 64) == 1) view

      go : (m / 64 ≡ k) ⊎ (m / 64 ≡ k → ⊥)
          → (bit_at (get_or (set words k (bit_and word (bit_not w64 mask))) (m / 64) 0) (m % 64) == 1) ≡ (not (m / 64 == k && (bit_at mask (m % 64) == 1)) && (bit_at (get_or set_is (m / 64) 0) (m % 64) == 1))
      go (inl e) =
          let here : (m / 64 == k) ≡ true = eq-eqb _ _ e in
          let now : get_or (set words k (bit_and word (bit_not w64 mask))) (m / 64) 0 ≡ bit_and word (bit_not w64 mask) =
          ap (λ (n : ℕ). get_or (set words k (bit_and word (bit_not w64 mask))) n 0) e ∙ get_or-set_same words k _ 0 inside in
          let was : bit_at word (m % 64) ≡ bit_at (get_or words (m / 64) 0) (m % 64) =
          ap (λ (w : ℕ). bit_at w (m % 64)) word_is ∙ ap (λ (n : ℕ). bit_at (get_or words n 0) (m % 64)) (sym e) in
          let bit : bit_at (bit_and word (bit_not w64 mask)) (m % 64) ≡ min (bit_at word (m % 64)) (1 - bit_at mask (m % 64)) =
          omega (arith, bit_at_and word (bit_not w64 mask) (m % 64), bit_at_not w64 mask (m % 64) fits (omega arith)) in
          rw here
          (ap (λ (w : ℕ). bit_at w (m % 64) == 1) now ∙ ap (λ (b : ℕ). b == 1) bit ∙ bit-cleared (bit_at word (m % 64)) (bit_at mask (m % 64)) (bit_at-lt word (m % 64)) (bit_at-lt mask (m % 64))
          ∙ ap (λ (b : ℕ). not (bit_at mask (m % 64) == 1) && (b == 1)) was ∙ ap (λ (b : Bool). not (bit_at mask (m % 64) == 1) && b) same)
      go (inr n) =
          let here : (m / 64 == k) ≡ false = ne_eqb _ _ n in
          rw here (ap (λ (w : ℕ). bit_at w (m % 64) == 1) (get_or-set_other words k (m / 64) _ 0 n) ∙ same)

  pub take-left : (m : ℕ) → has set_is m ≡ true → has (set words k (bit_and word (bit_not w64 mask))) m ≡ false → IsSetAt (64 * k) (bit_and word mask) m
  unfolding has is_set_at
  take-left m old new = go (cases_eq (m / 64) k)
    where
      left : List ℕ
      left = set words k (bit_and word (bit_not w64 mask))

      was : bit_at (get_or words (m / 64) 0) (m % 64) ≡ 1
      was = ap (λ (ws : List ℕ). bit_at (get_or ws (m / 64) 0) (m % 64)) view ∙ eqb-true _ _ old

      go : (m / 64 ≡ k) ⊎ (m / 64 ≡ k → ⊥) → IsSetAt (64 * k) (bit_and word mask) m
      go (inl e) =
          let one : bit_at word (m % 64) ≡ 1 = ap (λ (w : ℕ). bit_at w (m % 64)) word_is ∙ ap (λ (n : ℕ). bit_at (get_or words n 0) (m % 64)) (sym e) ∙ was in
          let gone : bit_at (bit_and word (bit_not w64 mask)) (m % 64) ≡ 1 → ⊥ =
          λ one. false≢true (sym new ∙ eq-eqb _ _ (ap (λ (n : ℕ). bit_at (get_or left n 0) (m % 64)) e ∙ ap (λ (w : ℕ). bit_at w (m % 64)) (get_or-set_same words k _ 0 inside) ∙ one)) in
          let bit : bit_at (bit_and word mask) (m % 64) ≡ 1 =
          omega (arith, bit_at_and word mask (m % 64), bit_at_and word (bit_not w64 mask) (m % 64), bit_at_not w64 mask (m % 64) fits (omega arith), bit_at-lt mask (m % 64), one, gone) in
          record { place = m % 64; small = omega arith; set = eq-eqb _ _ bit; is = omega (arith, e) }
      go (inr n) = absurd (false≢true (sym new ∙ eq-eqb _ _ (ap (λ (w : ℕ). bit_at w (m % 64)) (get_or-set_other words k (m / 64) _ 0 n) ∙ was)))

  pub take-taken : (place : ℕ) → place < 64 → is_set_at mask place ≡ true → has set_is (64 * k + place) ≡ true → is_set_at (bit_and word mask) place ≡ true
  unfolding has is_set_at
  take-taken place small on old =
      let at : k ≡ (64 * k + place) / 64 = omega arith in
      let rest : place ≡ (64 * k + place) % 64 = omega arith in
      let was : bit_at word place ≡ 1 =
      ap (λ (w : ℕ). bit_at w place) word_is ∙ ap (λ (ws : List ℕ). bit_at (get_or ws k 0) place) view
      ∙ ap₂ (λ (a b : ℕ). bit_at (get_or set_is a 0) b) at rest ∙ eqb-true _ _ old in
      let on_bit : bit_at mask place ≡ 1 = eqb-true _ _ on in
      eq-eqb _ _ (bit_at_and word mask place ∙ ap₂ (λ (x y : ℕ). min x y) was on_bit)

-- a set number whose place isn't set in a word's part is unset in the mask
pub and-unset : (set_is : List ℕ) (k mask word place : ℕ) → place < 64 → word ≡ get_or set_is k 0 → is_set_at (bit_and mask word) place ≡ false → has set_is (64 * k + place) ≡ true → is_set_at mask place ≡ false
unfolding has is_set_at
and-unset set_is k mask word place small read unset on =
    let at : k ≡ (64 * k + place) / 64 = omega (arith, small) in
    let rest : place ≡ (64 * k + place) % 64 = omega (arith, small) in
    let bit : bit_at word place ≡ 1 = ap (λ (w : ℕ). bit_at w place) read ∙ ap₂ (λ (a b : ℕ). bit_at (get_or set_is a 0) b) at rest ∙ eqb-true _ _ on in
    go bit (cases_eq (bit_at mask place) 1)
  where
    go : bit_at word place ≡ 1 → (bit_at mask place ≡ 1) ⊎ (bit_at mask place ≡ 1 → ⊥) → (bit_at mask place == 1) ≡ false
    go bit (inl one) = absurd (false≢true (sym unset ∙ eq-eqb _ _ (bit_at_and mask word place ∙ ap₂ (λ (x y : ℕ). min x y) one bit)))
    go bit (inr other) = ne_eqb _ _ other
