-- The set places of a mask, one after another.
use Rattle.std.proofs.Common.{◌≡◌, ℕ, zero, suc, ◌+◌, ◌-◌, ◌*◌, ◌%◌, ◌^◌, ◌==◌, min, w64, ◌<◌, ◌≤◌, ◌⊎◌, inl, inr, true, false, List, [], ◌∷◌, length, drop, get_or, sym, ap, subst, ◌∙◌, arith}
use Rattle.std.proofs.lemmas.Bool.{cases_Bool, cases_lt, eq-eqb, eqb-true}
use Rattle.std.proofs.lemmas.Nat.Bits.{bit_at-lt, bit_at_and, bit_at_not}
use Rattle.std.specs.Prelude.{bit_and, if◌then◌else◌}
use Rattle.std.specs.Int.{bit_at}
use Rattle.cmb_words.specs.Bits.{is_set_at, places_in, places_set}
use Rattle.cmb_words.proofs.BitFacts.{mask_below, mask_from}

-- the next set place from one on, and those behind it
pub record IsNextPlace (mask from upto place : ℕ) (rest : List ℕ) : Type 0 where
  pub later : from ≤ place
  pub within : place < upto
  pub set : is_set_at mask place ≡ true
  pub none : (q : ℕ) → from ≤ q → q < place → is_set_at mask q ≡ false
  pub behind : rest ≡ places_in mask (place + 1) (upto - (place + 1))

next-place : (mask from count upto place : ℕ) (rest : List ℕ) → upto ≡ from + count → places_in mask from count ≡ place ∷ rest → IsNextPlace mask from upto place rest
unfolding places_in
next-place mask from zero upto place rest ends is = absurd (omega (arith, ap length is))
next-place mask from (suc count) upto place rest ends is =
    go (λ listed. next-place mask (suc from) count upto place rest (omega (arith, ends)) listed) (cases_Bool (is_set_at mask from))
  where
    go : (places_in mask (suc from) count ≡ place ∷ rest → IsNextPlace mask (suc from) upto place rest)
        → (is_set_at mask from ≡ true) ⊎ (is_set_at mask from ≡ false) → IsNextPlace mask from upto place rest
    go more (inl one) =
        let listed : from ∷ places_in mask (suc from) count ≡ place ∷ rest = rw one at is in
        let here : from ≡ place = ap (λ (xs : List ℕ). get_or xs 0 0) listed in
        let left : places_in mask (suc from) count ≡ rest = ap (λ (xs : List ℕ). drop 1 xs) listed in
        record {
          later = omega (arith, here);
          within = omega (arith, here, ends);
          set = subst (λ (q : ℕ). is_set_at mask q ≡ true) here one;
          none = λ q late below. absurd (omega (arith, here, late, below));
          behind = sym left ∙ ap (λ (n : ℕ). places_in mask n count) (omega (arith, here)) ∙ ap (λ (n : ℕ). places_in mask (place + 1) n) (omega (arith, here, ends));
        }
    go more (inr gone) =
        let next = more (rw gone at is) in
        record {
          later = omega (arith, next.later);
          within = next.within;
          set = next.set;
          none = λ q late below. at next q late below (cases_lt from q);
          behind = next.behind;
        }
      where
        at : IsNextPlace mask (suc from) upto place rest → (q : ℕ) → from ≤ q → q < place → (from < q) ⊎ (q ≤ from) → is_set_at mask q ≡ false
        at next q late below (inl l) = next.none q (omega (arith, l)) below
        at next q late below (inr l) = let e : from ≡ q = omega (arith, late, l) in subst (λ (n : ℕ). is_set_at mask n ≡ false) e gone

no-place : (mask from count : ℕ) → places_in mask from count ≡ [] → (q : ℕ) → from ≤ q → q < from + count → is_set_at mask q ≡ false
unfolding places_in
no-place mask from zero is q late below = absurd (omega (arith, late, below))
no-place mask from (suc count) is q late below =
    go (λ listed further. no-place mask (suc from) count listed q further (omega (arith, below))) (cases_Bool (is_set_at mask from))
  where
    go : (places_in mask (suc from) count ≡ [] → suc from ≤ q → is_set_at mask q ≡ false) → (is_set_at mask from ≡ true) ⊎ (is_set_at mask from ≡ false) → is_set_at mask q ≡ false
    go more (inl one) =
        let listed : from ∷ places_in mask (suc from) count ≡ [] = rw one at is in
        absurd (omega (arith, ap length listed))
    go more (inr gone) = at (cases_lt from q)
      where
        at : (from < q) ⊎ (q ≤ from) → is_set_at mask q ≡ false
        at (inl l) = more (rw gone at is) (omega (arith, l))
        at (inr l) = let e : from ≡ q = omega (arith, late, l) in subst (λ (n : ℕ). is_set_at mask n ≡ false) e gone

-- the set places of a mask from one on are left
pub record AreLeft (mask upto : ℕ) (left : List ℕ) : Type 0 where
  pub small : upto ≤ 64
  pub is : left ≡ places_in mask upto (64 - upto)

pub left-all : (mask : ℕ) (left : List ℕ) → left ≡ places_set mask → AreLeft mask 0 left
unfolding places_set
left-all mask left is = record { small = omega arith; is = is }

module _ (mask upto : ℕ) (left : List ℕ) (h : AreLeft mask upto left) where
  pub left-next : (place : ℕ) (rest : List ℕ) → left ≡ place ∷ rest → IsNextPlace mask upto 64 place rest
  left-next place rest is = next-place mask upto (64 - upto) 64 place rest (omega (arith, h.small)) (sym h.is ∙ is)

  pub left-behind : (place : ℕ) (rest : List ℕ) → left ≡ place ∷ rest → AreLeft mask (place + 1) rest
  left-behind place rest is = let next = left-next place rest is in record { small = omega (arith, next.within); is = next.behind }

  pub left-none : left ≡ [] → (q : ℕ) → upto ≤ q → q < 64 → is_set_at mask q ≡ false
  left-none is q late below = no-place mask upto (64 - upto) (sym h.is ∙ is) q late (omega (arith, below))

-- there are no more set places than places
places-few : (mask from count : ℕ) → length (places_in mask from count) ≤ count
unfolding places_in
places-few mask from zero = omega arith
places-few mask from (suc count) = go (places-few mask (suc from) count) (cases_Bool (is_set_at mask from))
  where
    go : length (places_in mask (suc from) count) ≤ count → (is_set_at mask from ≡ true) ⊎ (is_set_at mask from ≡ false)
        → length (if is_set_at mask from then from ∷ places_in mask (suc from) count else places_in mask (suc from) count) ≤ suc count
    go few (inl one) = rw one (omega (arith, few))
    go few (inr none) = rw none (omega (arith, few))

pub left-few : (mask : ℕ) (left : List ℕ) → left ≡ places_set mask → length left ≤ 64
unfolding places_set
left-few mask left is = let few = places-few mask 0 64 in omega (arith, few, ap length is)

-- ---- the set places of a mask below one

abbrev cut_at : ℕ → ℕ → ℕ
cut_at mask room = bit_and mask (2 ^ 64 - 1 - (2 ^ 64 - 1) * 2 ^ room % 2 ^ 64)

cut-bit : (mask room place : ℕ) → place < 64 → bit_at (cut_at mask room) place ≡ min (bit_at mask place) (1 - bit_at ((2 ^ 64 - 1) * 2 ^ room % 2 ^ 64) place)
cut-bit mask room place small =
    bit_at_and mask (2 ^ 64 - 1 - (2 ^ 64 - 1) * 2 ^ room % 2 ^ 64) place ∙ ap (min (bit_at mask place)) (bit_at_not w64 ((2 ^ 64 - 1) * 2 ^ room % 2 ^ 64) place (omega arith) small)

pub cut-set : (mask room place : ℕ) → room < 64 → place < 64 → is_set_at (cut_at mask room) place ≡ true → (is_set_at mask place ≡ true) × (place < room)
unfolding is_set_at
cut-set mask room place fits small set = go (cases_lt place room)
  where
    go : (place < room) ⊎ (room ≤ place) → ((bit_at mask place == 1) ≡ true) × (place < room)
    go (inl l) = (eq-eqb _ _ (omega (arith, eqb-true _ _ set, cut-bit mask room place small, bit_at-lt mask place)), l)
    go (inr l) = absurd (omega (arith, eqb-true _ _ set, cut-bit mask room place small, mask_from room place l small))

pub cut-unset : (mask room place : ℕ) → room < 64 → place < room → is_set_at (cut_at mask room) place ≡ false → is_set_at mask place ≡ false
unfolding is_set_at
cut-unset mask room place fits below unset =
    ap (λ (b : ℕ). b == 1) (let e : bit_at mask place ≡ bit_at (cut_at mask room) place = omega (arith, cut-bit mask room place (omega (arith, fits, below)), mask_below room place below (omega (arith, fits)), bit_at-lt mask place) in e) ∙ unset
