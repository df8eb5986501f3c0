-- Levels by their two bits.
use Rattle.std.proofs.Common.{◌≡◌, ℕ, zero, suc, ◌+◌, ◌-◌, ◌*◌, ◌/◌, ◌%◌, ◌^◌, ◌<◌, ◌≤◌, ◌≢◌, min, max, [], ◌∷◌, false, true≢false, not, refl, sym, ap, ap₂, ◌∙◌, ⊎_elim, arith, Bool, true}
use Rattle.std.proofs.lemmas.Bool.{cases_lt}
use Rattle.std.proofs.lemmas.Bool.Decides.{eqb_tells}
use Rattle.std.proofs.lemmas.Nat.{or_lt, xor_lt}
use Rattle.std.specs.Prelude.{if◌then◌else◌, bit_and, bit_or, bit_xor, ◌==◌}
use Rattle.std.specs.Int.{bit_at}
use Rattle.std.proofs.lemmas.Nat.Bits.{bit_at_and, bit_at_or, bit_at_xor, bit_at_ones, bit_at-zero, shr_and_one, bit_at-lt}
use Rattle.cmb_wave.specs.declared.level.Level.TheVariants.{Zero, One, X}
use Rattle.cmb_wave.specs.Waveform.{same_level}
use Rattle.cmb_design_model.specs.Gate.{conjunction, disjunction, parity, inverse_of}
use Rattle.cmb_words.specs.Inner.Masked.{inverse_if}
use Rattle.cmb_words.specs.Bits.{level_of_bits, level_in, is_set_at}
use Rattle.cmb_words.proofs.BitFacts.{shl_high, shl_low, masked_below, masked_from, none_from, all_from, keeps, takes}

-- ---- one level

is_x : (p q : ℕ) → q ≡ 1 → X ≡ level_of_bits p q
is_x zero q h = rw h
is_x (suc p) q h = rw h

is_one : (p q : ℕ) → p ≡ 1 → q ≡ 0 → One ≡ level_of_bits p q
is_one p q h k = rw (h, k)

is_zero : (p q : ℕ) → p ≡ 0 → q ≡ 0 → Zero ≡ level_of_bits p q
is_zero p q h k = rw (h, k)

pub tests_x : (v x i : ℕ) → bit_and (x / 2 ^ i) 1 ≡ 1 → X ≡ level_in v x i
unfolding level_in
tests_x v x i h = is_x (bit_at v i) (bit_at x i) (sym (shr_and_one x i) ∙ h)

pub tests_one : (v x i : ℕ) → bit_and (x / 2 ^ i) 1 ≢ 1 → bit_and (v / 2 ^ i) 1 ≡ 1 → One ≡ level_in v x i
unfolding level_in
tests_one v x i h k =
    is_one (bit_at v i) (bit_at x i) (sym (shr_and_one v i) ∙ k) (omega (arith, h, shr_and_one x i))

pub tests_zero : (v x i : ℕ) → bit_and (x / 2 ^ i) 1 ≢ 1 → bit_and (v / 2 ^ i) 1 ≢ 1 → Zero ≡ level_in v x i
unfolding level_in
tests_zero v x i h k =
    is_zero (bit_at v i) (bit_at x i) (omega (arith, k, shr_and_one v i)) (omega (arith, h, shr_and_one x i))

pub all_zero : (i : ℕ) → level_in 0 0 i ≡ Zero
unfolding level_in
all_zero i = sym (is_zero (bit_at 0 i) (bit_at 0 i) (bit_at-zero i) (bit_at-zero i))

pub all_one : (i : ℕ) → i < 64 → level_in (2 ^ 64 - 1) 0 i ≡ One
unfolding level_in
all_one i small = sym (is_one (bit_at (2 ^ 64 - 1) i) (bit_at 0 i) (bit_at_ones 64 i small) (bit_at-zero i))

pub all_x : (i : ℕ) → i < 64 → level_in 0 (2 ^ 64 - 1) i ≡ X
unfolding level_in
all_x i small = sym (is_x (bit_at 0 i) (bit_at (2 ^ 64 - 1) i) (bit_at_ones 64 i small))

-- two bits each
pub level_by_bits : (v x i m n j : ℕ) → bit_at v i ≡ bit_at m j → bit_at x i ≡ bit_at n j → level_in v x i ≡ level_in m n j
unfolding level_in
level_by_bits v x i m n j h k = ap₂ level_of_bits h k

pub apart_by_bits : (v x i m n j : ℕ) → bit_at v i ≡ bit_at m j → bit_at x i ≡ bit_at n j → bit_at m j + bit_at n j < 2
    → bit_at v i + bit_at x i < 2
apart_by_bits v x i m n j h k apart = omega (arith, h, k, apart)

-- ---- two bits that are not both set

pub by_bits : (P : ℕ → ℕ → Type 0) → P 0 0 → P 1 0 → P 0 1 → (p q : ℕ) → p + q < 2 → P p q
by_bits P a b c zero zero h = a
by_bits P a b c (suc zero) zero h = b
by_bits P a b c zero (suc zero) h = c
by_bits P a b c zero (suc (suc q)) h = absurd (omega arith)
by_bits P a b c (suc zero) (suc q) h = absurd (omega arith)
by_bits P a b c (suc (suc p)) q h = absurd (omega arith)

pub by_two : (P : ℕ → ℕ → ℕ → ℕ → Type 0)
    → P 0 0 0 0 → P 0 0 1 0 → P 0 0 0 1 → P 1 0 0 0 → P 1 0 1 0 → P 1 0 0 1 → P 0 1 0 0 → P 0 1 1 0 → P 0 1 0 1
    → (p q r s : ℕ) → p + q < 2 → r + s < 2 → P p q r s
by_two P a b c d e f g j l p q r s h k =
    by_bits (λ p q. P p q r s) (by_bits (P 0 0) a b c r s k) (by_bits (P 1 0) d e f r s k) (by_bits (P 0 1) g j l r s k) p q h

-- ---- gates

and_bits : (p q r s : ℕ) → p + q < 2 → r + s < 2
    → level_of_bits (min p r) ((min (max p q) (max r s) + min p r) % 2) ≡ conjunction (level_of_bits p q ∷ level_of_bits r s ∷ [])
and_bits =
    by_two (λ p q r s. level_of_bits (min p r) ((min (max p q) (max r s) + min p r) % 2) ≡ conjunction (level_of_bits p q ∷ level_of_bits r s ∷ []))
    refl refl refl refl refl refl refl refl refl

pub and_level : (a b c d i : ℕ) → bit_at a i + bit_at b i < 2 → bit_at c i + bit_at d i < 2
    → level_in (bit_and a c) (bit_xor (bit_and (bit_or a b) (bit_or c d)) (bit_and a c)) i ≡ conjunction (level_in a b i ∷ level_in c d i ∷ [])
unfolding level_in
and_level a b c d i h k = simp (bit_at_and, bit_at_or, bit_at_xor) (and_bits _ _ _ _ h k)

pub and_apart : (a b c d i : ℕ)
    → bit_at (bit_and a c) i + bit_at (bit_xor (bit_and (bit_or a b) (bit_or c d)) (bit_and a c)) i < 2
and_apart a b c d i = simp (bit_at_and, bit_at_or, bit_at_xor) (omega arith)

or_bits : (p q r s : ℕ) → p + q < 2 → r + s < 2
    → level_of_bits (max p r) ((max (max (max p r) q) s + max p r) % 2) ≡ disjunction (level_of_bits p q ∷ level_of_bits r s ∷ [])
or_bits =
    by_two (λ p q r s. level_of_bits (max p r) ((max (max (max p r) q) s + max p r) % 2) ≡ disjunction (level_of_bits p q ∷ level_of_bits r s ∷ []))
    refl refl refl refl refl refl refl refl refl

pub or_level : (a b c d i : ℕ) → bit_at a i + bit_at b i < 2 → bit_at c i + bit_at d i < 2
    → level_in (bit_or a c) (bit_xor (bit_or (bit_or (bit_or a c) b) d) (bit_or a c)) i ≡ disjunction (level_in a b i ∷ level_in c d i ∷ [])
unfolding level_in
or_level a b c d i h k = simp (bit_at_or, bit_at_xor) (or_bits _ _ _ _ h k)

pub or_apart : (a b c d i : ℕ)
    → bit_at (bit_or a c) i + bit_at (bit_xor (bit_or (bit_or (bit_or a c) b) d) (bit_or a c)) i < 2
or_apart a b c d i = simp (bit_at_or, bit_at_xor) (omega arith)

xor_bits : (p q r s : ℕ) → p + q < 2 → r + s < 2
    → level_of_bits ((max ((p + r) % 2) (max q s) + max q s) % 2) (max q s) ≡ parity (level_of_bits p q ∷ level_of_bits r s ∷ [])
xor_bits =
    by_two (λ p q r s. level_of_bits ((max ((p + r) % 2) (max q s) + max q s) % 2) (max q s) ≡ parity (level_of_bits p q ∷ level_of_bits r s ∷ []))
    refl refl refl refl refl refl refl refl refl

pub xor_level : (a b c d i : ℕ) → bit_at a i + bit_at b i < 2 → bit_at c i + bit_at d i < 2
    → level_in (bit_xor (bit_or (bit_xor a c) (bit_or b d)) (bit_or b d)) (bit_or b d) i ≡ parity (level_in a b i ∷ level_in c d i ∷ [])
unfolding level_in
xor_level a b c d i h k = simp (bit_at_or, bit_at_xor) (xor_bits _ _ _ _ h k)

pub xor_apart : (a b c d i : ℕ)
    → bit_at (bit_xor (bit_or (bit_xor a c) (bit_or b d)) (bit_or b d)) i + bit_at (bit_or b d) i < 2
xor_apart a b c d i = simp (bit_at_or, bit_at_xor) (omega arith)

not_bits : (p q : ℕ) → p + q < 2 → level_of_bits ((max p q + 1) % 2) q ≡ inverse_of (level_of_bits p q)
not_bits = by_bits (λ p q. level_of_bits ((max p q + 1) % 2) q ≡ inverse_of (level_of_bits p q)) refl refl refl

not_bit : (a b i : ℕ) → i < 64 → bit_at (bit_xor (bit_or a b) (2 ^ 64 - 1)) i ≡ (max (bit_at a i) (bit_at b i) + 1) % 2
not_bit a b i h = omega (arith, bit_at_xor (bit_or a b) (2 ^ 64 - 1) i, bit_at_or a b i, bit_at_ones 64 i h)

pub not_level : (a b i : ℕ) → i < 64 → bit_at a i + bit_at b i < 2
    → level_in (bit_xor (bit_or a b) (2 ^ 64 - 1)) b i ≡ inverse_of (level_in a b i)
unfolding level_in
not_level a b i small h = ap (λ p. level_of_bits p (bit_at b i)) (not_bit a b i small) ∙ not_bits _ _ h

pub not_apart : (a b i : ℕ) → i < 64 → bit_at a i + bit_at b i < 2
    → bit_at (bit_xor (bit_or a b) (2 ^ 64 - 1)) i + bit_at b i < 2
not_apart a b i small h = omega (arith, not_bit a b i small)

-- ---- gates of levels that are known

-- a bit that is 0 or 1, by cases
pub by_bit : (P : ℕ → Type 0) → P 0 → P 1 → (k : ℕ) → k < 2 → P k
by_bit P a b zero h = a
by_bit P a b (suc zero) h = b
by_bit P a b (suc (suc k)) h = absurd (omega arith)

-- two such bits
by_each : (P : ℕ → ℕ → Type 0) → P 0 0 → P 0 1 → P 1 0 → P 1 1 → (p r : ℕ) → p < 2 → r < 2 → P p r
by_each P a b c d p r h k = by_bit (λ p. P p r) (by_bit (P 0) a b r k) (by_bit (P 1) c d r k) p h

pub and_known : (a c i : ℕ) → level_in (bit_and a c) 0 i ≡ conjunction (level_in a 0 i ∷ level_in c 0 i ∷ [])
unfolding level_in
and_known a c i =
    simp (bit_at_and, bit_at-zero)
    (by_each (λ p r. level_of_bits (min p r) 0 ≡ conjunction (level_of_bits p 0 ∷ level_of_bits r 0 ∷ [])) refl refl refl refl _ _ (bit_at-lt a i) (bit_at-lt c i))

pub or_known : (a c i : ℕ) → level_in (bit_or a c) 0 i ≡ disjunction (level_in a 0 i ∷ level_in c 0 i ∷ [])
unfolding level_in
or_known a c i =
    simp (bit_at_or, bit_at-zero)
    (by_each (λ p r. level_of_bits (max p r) 0 ≡ disjunction (level_of_bits p 0 ∷ level_of_bits r 0 ∷ [])) refl refl refl refl _ _ (bit_at-lt a i) (bit_at-lt c i))

pub xor_known : (a c i : ℕ) → level_in (bit_xor a c) 0 i ≡ parity (level_in a 0 i ∷ level_in c 0 i ∷ [])
unfolding level_in
xor_known a c i =
    simp (bit_at_xor, bit_at-zero)
    (by_each (λ p r. level_of_bits ((p + r) % 2) 0 ≡ parity (level_of_bits p 0 ∷ level_of_bits r 0 ∷ [])) refl refl refl refl _ _ (bit_at-lt a i) (bit_at-lt c i))

pub not_known : (a i : ℕ) → i < 64 → level_in (bit_xor a (2 ^ 64 - 1)) 0 i ≡ inverse_of (level_in a 0 i)
unfolding level_in
not_known a i small =
    simp (bit_at_xor, bit_at-zero, bit_at_ones 64 i small)
    (by_bit (λ p. level_of_bits ((p + 1) % 2) 0 ≡ inverse_of (level_of_bits p 0)) refl refl _ (bit_at-lt a i))

-- ---- masks over levels

inverse_bits : (p q : ℕ) → p + q < 2 → (k : ℕ) → k < 2
    → level_of_bits (min ((p + k) % 2) ((q + 1) % 2)) q ≡ inverse_if (k == 1) (level_of_bits p q)
inverse_bits =
    by_bits (λ p q. (k : ℕ) → k < 2 → level_of_bits (min ((p + k) % 2) ((q + 1) % 2)) q ≡ inverse_if (k == 1) (level_of_bits p q))
    (by_bit (λ k. level_of_bits (min ((0 + k) % 2) 1) 0 ≡ inverse_if (k == 1) Zero) refl refl)
    (by_bit (λ k. level_of_bits (min ((1 + k) % 2) 1) 0 ≡ inverse_if (k == 1) One) refl refl)
    (by_bit (λ k. level_of_bits (min ((0 + k) % 2) 0) 1 ≡ inverse_if (k == 1) X) refl refl)

inverse_bit : (a b m i : ℕ) → i < 64
    → bit_at (bit_and (bit_xor a m) (bit_xor b (2 ^ 64 - 1))) i ≡ min ((bit_at a i + bit_at m i) % 2) ((bit_at b i + 1) % 2)
inverse_bit a b m i small =
    bit_at_and _ _ i ∙ ap₂ min (bit_at_xor a m i) (bit_at_xor b (2 ^ 64 - 1) i ∙ ap (λ k. (bit_at b i + k) % 2) (bit_at_ones 64 i small))

pub inverse_level : (a b m i : ℕ) → i < 64 → bit_at a i + bit_at b i < 2
    → level_in (bit_and (bit_xor a m) (bit_xor b (2 ^ 64 - 1))) b i ≡ inverse_if (is_set_at m i) (level_in a b i)
unfolding level_in is_set_at
inverse_level a b m i small h =
    ap (λ p. level_of_bits p (bit_at b i)) (inverse_bit a b m i small) ∙ inverse_bits _ _ h (bit_at m i) (bit_at-lt m i)

pub inverse_apart : (a b m i : ℕ) → i < 64 → bit_at (bit_and (bit_xor a m) (bit_xor b (2 ^ 64 - 1))) i + bit_at b i < 2
inverse_apart a b m i small = omega (arith, inverse_bit a b m i small, bit_at-lt b i)

one_bits : (p q : ℕ) → p + q < 2 → (k : ℕ) → k < 2
    → level_of_bits (max p k) (min q ((k + 1) % 2)) ≡ (if k == 1 then One else level_of_bits p q)
one_bits =
    by_bits (λ p q. (k : ℕ) → k < 2 → level_of_bits (max p k) (min q ((k + 1) % 2)) ≡ (if k == 1 then One else level_of_bits p q))
    (by_bit (λ k. level_of_bits (max 0 k) (min 0 ((k + 1) % 2)) ≡ (if k == 1 then One else Zero)) refl refl)
    (by_bit (λ k. level_of_bits (max 1 k) (min 0 ((k + 1) % 2)) ≡ (if k == 1 then One else One)) refl refl)
    (by_bit (λ k. level_of_bits (max 0 k) (min 1 ((k + 1) % 2)) ≡ (if k == 1 then One else X)) refl refl)

one_bit : (b m i : ℕ) → i < 64 → bit_at (bit_and b (bit_xor m (2 ^ 64 - 1))) i ≡ min (bit_at b i) ((bit_at m i + 1) % 2)
one_bit b m i small =
    bit_at_and _ _ i ∙ ap (min (bit_at b i)) (bit_at_xor m (2 ^ 64 - 1) i ∙ ap (λ k. (bit_at m i + k) % 2) (bit_at_ones 64 i small))

pub one_level : (a b m i : ℕ) → i < 64 → bit_at a i + bit_at b i < 2
    → level_in (bit_or a m) (bit_and b (bit_xor m (2 ^ 64 - 1))) i ≡ (if is_set_at m i then One else level_in a b i)
unfolding level_in is_set_at
one_level a b m i small h =
    ap₂ level_of_bits (bit_at_or a m i) (one_bit b m i small) ∙ one_bits _ _ h (bit_at m i) (bit_at-lt m i)

pub one_apart : (a b m i : ℕ) → i < 64 → bit_at a i + bit_at b i < 2
    → bit_at (bit_or a m) i + bit_at (bit_and b (bit_xor m (2 ^ 64 - 1))) i < 2
one_apart a b m i small h = omega (arith, bit_at_or a m i, one_bit b m i small, bit_at-lt m i, h)

chosen_bit : (a c m i : ℕ) → bit_at (bit_xor a (bit_and (bit_xor a c) m)) i ≡ (if is_set_at m i then bit_at c i else bit_at a i)
unfolding is_set_at
chosen_bit a c m i =
    ⊎_elim
    (λ yes. rw yes.0 (takes a c m i yes.1))
    (λ other. rw other.0 (keeps a c m i (let e : bit_at m i ≡ 0 = omega (arith, bit_at-lt m i, other.1) in e)))
    (eqb_tells (bit_at m i) 1)

chosen_of : (b : Bool) (p q r s : ℕ)
    → level_of_bits (if b then r else p) (if b then s else q) ≡ (if b then level_of_bits r s else level_of_bits p q)
chosen_of true p q r s = refl
chosen_of false p q r s = refl

pub chosen_level : (a b c d m i : ℕ)
    → level_in (bit_xor a (bit_and (bit_xor a c) m)) (bit_xor b (bit_and (bit_xor b d) m)) i
    ≡ (if is_set_at m i then level_in c d i else level_in a b i)
unfolding level_in
chosen_level a b c d m i =
    ap₂ level_of_bits (chosen_bit a c m i) (chosen_bit b d m i) ∙ chosen_of (is_set_at m i) _ _ _ _

chosen_sum : (b : Bool) (p q r s : ℕ) → p + q < 2 → r + s < 2 → (if b then r else p) + (if b then s else q) < 2
chosen_sum true p q r s h k = k
chosen_sum false p q r s h k = h

pub chosen_apart : (a b c d m i : ℕ) → bit_at a i + bit_at b i < 2 → bit_at c i + bit_at d i < 2
    → bit_at (bit_xor a (bit_and (bit_xor a c) m)) i + bit_at (bit_xor b (bit_and (bit_xor b d) m)) i < 2
chosen_apart a b c d m i h k =
    rw (chosen_bit a c m i, chosen_bit b d m i) (chosen_sum (is_set_at m i) _ _ _ _ h k)

pub all_set : (i : ℕ) → i < 64 → is_set_at (2 ^ 64 - 1) i ≡ true
unfolding is_set_at
all_set i small = ap (λ b. b == 1) (bit_at_ones 64 i small)

pub none_set : (i : ℕ) → is_set_at 0 i ≡ false
unfolding is_set_at
none_set i = ap (λ b. b == 1) (bit_at-zero i)

-- ---- delays

pub delayed_level : (v x d i : ℕ) → d ≤ i → i < 64
    → level_in (v * 2 ^ d % 2 ^ 64) (x * 2 ^ d % 2 ^ 64) i ≡ level_in v x (i - d)
delayed_level v x d i from small = level_by_bits _ _ i v x (i - d) (shl_high v d i from small) (shl_high x d i from small)

pub delayed_apart : (v x d i : ℕ) → ((j : ℕ) → j < 64 → bit_at v j + bit_at x j < 2) → i < 64
    → bit_at (v * 2 ^ d % 2 ^ 64) i + bit_at (x * 2 ^ d % 2 ^ 64) i < 2
delayed_apart v x d i apart small =
    ⊎_elim
    (λ below. rw (shl_low v d i below small, shl_low x d i below small) (omega arith))
    (λ from. rw (shl_high v d i from small, shl_high x d i from small) (apart (i - d) (omega arith)))
    (cases_lt i d)

-- ---- levels that differ

-- the bit that says whether two levels differ
abbrev pub differ_bit : ℕ → ℕ → ℕ → ℕ → ℕ
differ_bit p q r s = max ((r + p) % 2) ((s + q) % 2)

differ_tells : (p q r s : ℕ) → p + q < 2 → r + s < 2 → (differ_bit p q r s == 1) ≡ not (same_level (level_of_bits p q) (level_of_bits r s))
differ_tells =
    by_two (λ p q r s. (differ_bit p q r s == 1) ≡ not (same_level (level_of_bits p q) (level_of_bits r s)))
    refl refl refl refl refl refl refl refl refl

same_levels : (p q r s : ℕ) → p + q < 2 → r + s < 2 → differ_bit p q r s ≡ 0 → level_of_bits p q ≡ level_of_bits r s
same_levels =
    by_two (λ p q r s. differ_bit p q r s ≡ 0 → level_of_bits p q ≡ level_of_bits r s)
    (λ h. refl) (λ h. cc) (λ h. cc) (λ h. cc) (λ h. refl) (λ h. cc) (λ h. cc) (λ h. cc) (λ h. refl)

same_planes : (p q r s : ℕ) → p + q < 2 → r + s < 2 → level_of_bits p q ≡ level_of_bits r s → differ_bit p q r s ≡ 0
same_planes =
    by_two (λ p q r s. level_of_bits p q ≡ level_of_bits r s → differ_bit p q r s ≡ 0)
    (λ h. refl) (λ h. cc) (λ h. cc) (λ h. cc) (λ h. refl) (λ h. cc) (λ h. cc) (λ h. cc) (λ h. refl)

differ_at : (a b c d i : ℕ) → bit_at (bit_or (bit_xor a c) (bit_xor b d)) i ≡ differ_bit (bit_at c i) (bit_at d i) (bit_at a i) (bit_at b i)
differ_at a b c d i = simp (bit_at_or, bit_at_xor)

pub levels_from_none : (a b c d i : ℕ) → bit_at a i + bit_at b i < 2 → bit_at c i + bit_at d i < 2
    → bit_at (bit_or (bit_xor a c) (bit_xor b d)) i ≡ 0 → level_in a b i ≡ level_in c d i
unfolding level_in
levels_from_none a b c d i h k none = sym (same_levels _ _ _ _ k h (sym (differ_at a b c d i) ∙ none))

pub none_from_levels : (a b c d i : ℕ) → bit_at a i + bit_at b i < 2 → bit_at c i + bit_at d i < 2
    → level_in a b i ≡ level_in c d i → bit_at (bit_or (bit_xor a c) (bit_xor b d)) i ≡ 0
unfolding level_in
none_from_levels a b c d i h k same = differ_at a b c d i ∙ same_planes _ _ _ _ k h (sym same)

not_zero : (n : ℕ) → not (n == 0) ≡ false → n ≡ 0
not_zero n h = ⊎_elim (λ yes. yes.1) (λ other. absurd (true≢false (sym (ap not other.0) ∙ h))) (eqb_tells n 0)

-- the test `n >> place != 0` of what differs between two words
module _ (a b c d place : ℕ)
    (apart : (i : ℕ) → i < 64 → bit_at a i + bit_at b i < 2) (other : (i : ℕ) → i < 64 → bit_at c i + bit_at d i < 2) where
  abbrev differing : ℕ
  differing = bit_or (bit_xor a c) (bit_xor b d)

  pub same_from_test : not (differing / 2 ^ place == 0) ≡ false → (i : ℕ) → place ≤ i → i < 64 → level_in a b i ≡ level_in c d i
  same_from_test h i from small =
      levels_from_none a b c d i (apart i small) (other i small) (none_from differing place i (not_zero (differing / 2 ^ place) h) from)

  pub test_from_same : a < 2 ^ 64 → b < 2 ^ 64 → c < 2 ^ 64 → d < 2 ^ 64 → ((i : ℕ) → place ≤ i → i < 64 → level_in a b i ≡ level_in c d i)
      → not (differing / 2 ^ place == 0) ≡ false
  test_from_same fit_a fit_b fit_c fit_d same =
      ap (λ n. not (n == 0))
      (all_from differing place (or_lt 64 (bit_xor a c) (bit_xor b d) (xor_lt 64 a c fit_a fit_c) (xor_lt 64 b d fit_b fit_d)) (λ i from small. none_from_levels a b c d i (apart i small) (other i small) (same i from small)))

-- ---- changes

-- the places at which a level differs from the one before, before they are cut
abbrev pub differences : ℕ → ℕ → ℕ
differences v x = bit_or (bit_xor v (v * 2 % 2 ^ 64)) (bit_xor x (x * 2 % 2 ^ 64))

difference_at : (v x i : ℕ) → 1 ≤ i → i < 64
    → bit_at (differences v x) i ≡ differ_bit (bit_at v (i - 1)) (bit_at x (i - 1)) (bit_at v i) (bit_at x i)
difference_at v x i least small =
    bit_at_or _ _ i
    ∙ ap₂ max (bit_at_xor v _ i ∙ ap (λ b. (bit_at v i + b) % 2) (shl_high v 1 i least small))
    (bit_at_xor x _ i ∙ ap (λ b. (bit_at x i + b) % 2) (shl_high x 1 i least small))

pub changes_below : (v x place i : ℕ) → place < 64 → i < place
    → is_set_at (bit_and (differences v x) ((2 ^ 64 - 1) * 2 ^ place % 2 ^ 64)) i ≡ false
unfolding is_set_at
changes_below v x place i fits below = ap (λ b. b == 1) (masked_below (differences v x) place i fits below)

pub changes_at : (v x place i : ℕ) → ((j : ℕ) → j < 64 → bit_at v j + bit_at x j < 2) → 1 ≤ place → place ≤ i → i < 64
    → is_set_at (bit_and (differences v x) ((2 ^ 64 - 1) * 2 ^ place % 2 ^ 64)) i
    ≡ not (same_level (level_in v x (i - 1)) (level_in v x i))
unfolding is_set_at level_in
changes_at v x place i apart least from small =
    ap (λ b. b == 1) (masked_from (differences v x) place i from small ∙ difference_at v x i (omega arith) small)
    ∙ differ_tells _ _ _ _ (apart (i - 1) (omega arith)) (apart i small)
