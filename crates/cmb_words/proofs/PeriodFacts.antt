-- The masks of whole periods.
use Rattle.std.proofs.Common.{◌≡◌, ℕ, zero, suc, ◌+◌, ◌-◌, ◌*◌, ◌%◌, ◌^◌, ◌<◌, ◌≤◌, true, false, Bool, ◌&&◌, nat_le, List, [], ◌∷◌, length, get_or, refl, sym, ap, subst, ◌∙◌, ⊎_elim, arith, mod-eq_of_lt}
use Rattle.std.specs.Prelude.{◌==◌}
use Rattle.std.specs.Int.{bit_at}
use Rattle.std.proofs.lemmas.Bool.{and_parts, cases_eq, cases_lt}
use Rattle.std.proofs.lemmas.Bool.Decides.{eqb_tells, nat_tests}
use Rattle.std.proofs.lemmas.Nat.Bits.{bit_at-zero, bit_at-pow_same, bit_at-pow_other}
use Rattle.cmb_words.specs.Bits.{is_set_at}
use Rattle.cmb_words.proofs.BitFacts.{shl_high, shl_low}

-- ---- a table of masks by their periods

abbrev pub same : Bool → Bool → Bool
same true b = b
same false true = false
same false false = true

same-is : (a b : Bool) → same a b ≡ true → a ≡ b
same-is true b h = sym h
same-is false true h = h
same-is false false h = refl

-- the mask has the whole periods among so many places
unfoldable pub has_periods : ℕ → ℕ → ℕ → Bool
has_periods mask period zero = true
has_periods mask period (suc i) = same (is_set_at mask i) (i % period == 0) && has_periods mask period i

has_periods-at : (mask period count i : ℕ) → has_periods mask period count ≡ true → i < count → is_set_at mask i ≡ (i % period == 0)
unfolding has_periods
has_periods-at mask period zero i h small = absurd (omega arith)
has_periods-at mask period (suc count) i h small =
    ⊎_elim
    (λ here. subst (λ (n : ℕ). is_set_at mask n ≡ (n % period == 0)) (sym here) (same-is _ _ (and_parts _ _ h).0))
    (λ other. has_periods-at mask period count i (and_parts _ _ h).1 (omega arith))
    (cases_eq i count)

-- the masks of each period from one on
unfoldable pub are_periods : ℕ → List ℕ → Bool
are_periods period [] = true
are_periods period (mask ∷ masks) = has_periods mask period 64 && are_periods (suc period) masks

pub periods-at : (masks : List ℕ) (from k period i : ℕ) → are_periods from masks ≡ true → k < length masks → period ≡ from + k → i < 64
    → is_set_at (get_or masks k 0) i ≡ (i % period == 0)
unfolding are_periods
periods-at [] from k period i h small e fits = absurd (omega arith)
periods-at (mask ∷ masks) from zero period i h small e fits =
    let same : from ≡ period = omega arith in
    has_periods-at mask period 64 i (subst (λ (n : ℕ). has_periods mask n 64 ≡ true) same (and_parts _ _ h).0) fits
periods-at (mask ∷ masks) from (suc k) period i h small e fits =
    periods-at masks (suc from) k period i (and_parts (has_periods mask from 64) _ h).1 (omega arith) (omega arith) fits

-- longer periods
pub one_at : (period i : ℕ) → 64 ≤ period → i < 64 → is_set_at 1 i ≡ (i % period == 0)
unfolding is_set_at
one_at period i wide small =
    let rest : i % period ≡ i = mod-eq_of_lt (let h : i < period = omega arith in h) in
    ⊎_elim
    (λ yes. ap (λ b. b == 1) (ap (bit_at 1) (sym rest ∙ yes.1) ∙ bit_at-pow_same 0) ∙ sym yes.0)
    (λ no. ap (λ b. b == 1) (bit_at-pow_other 0 i (λ e. no.1 (rest ∙ e))) ∙ sym no.0)
    (eqb_tells (i % period) 0)

-- ---- a mask and its first place

-- the mask moved up to its first place
pub first_at : (mask period first i : ℕ) → ((j : ℕ) → j < 64 → is_set_at mask j ≡ (j % period == 0)) → i < 64
    → is_set_at (mask * 2 ^ first % 2 ^ 64) i ≡ (nat_le first i && ((i - first) % period == 0))
unfolding is_set_at
first_at mask period first i each small =
    ⊎_elim
    (λ below.
    let no : nat_le first i ≡ false = grind (arith, nat_tests) in
    rw no (ap (λ b. b == 1) (shl_low mask first i below small)))
    (λ from.
    let yes : nat_le first i ≡ true = grind (arith, nat_tests) in
    let here : i - first < 64 = omega arith in
    let moved : is_set_at (mask * 2 ^ first % 2 ^ 64) i ≡ is_set_at mask (i - first) = ap (λ b. b == 1) (shl_high mask first i from small) in
    rw yes (moved ∙ each (i - first) here))
    (cases_lt i first)

pub none_at : (period first i : ℕ) → 64 ≤ first → i < 64 → is_set_at 0 i ≡ (nat_le first i && ((i - first) % period == 0))
unfolding is_set_at
none_at period first i beyond small =
    let no : nat_le first i ≡ false = grind (arith, nat_tests) in
    rw (no, bit_at-zero)
