-- The numbers in rows that passed their checks.
use Rattle.std.proofs.Common.{◌≡◌, ◌≤◌, ℕ, Bool, List, [], ◌∷◌, ◌++◌, None, Some, true, false, refl, arith, cond}
use Rattle.std.specs.Prelude.{not, nat_le, ◌&&◌}
use Rattle.std.proofs.lemmas.Bool.Decides.{nat_tests}
use Rattle.cmb_design_model.specs.Checks.{Check, first_fault}
use Rattle.cmb_design_model.specs.Nets.{is_within}
use Rattle.cmb_design_model.specs.Ranges.{AreTicks}

-- where no check stands, the first doesn't, and none of the others does
pub first_passes : (c : Check) (cs : List Check) → first_fault (c ∷ cs) ≡ None → (c.stands ≡ false) × (first_fault cs ≡ None)
unfolding first_fault
first_passes c cs h = by c.stands h
  where
    by : (b : Bool) → cond b (Some c.answer) (first_fault cs) ≡ None → (b ≡ false) × (first_fault cs ≡ None)
    by true e = cc e
    by false e = (refl, e)

pub parts_pass : (xs ys : List Check) → first_fault (xs ++ ys) ≡ None → (first_fault xs ≡ None) × (first_fault ys ≡ None)
unfolding first_fault
parts_pass [] ys h = (refl, h)
parts_pass (c ∷ cs) ys h = by c.stands h (parts_pass cs ys)
  where
    by : (b : Bool) → cond b (Some c.answer) (first_fault (cs ++ ys)) ≡ None
        → (first_fault (cs ++ ys) ≡ None → (first_fault cs ≡ None) × (first_fault ys ≡ None))
        → (cond b (Some c.answer) (first_fault cs) ≡ None) × (first_fault ys ≡ None)
    by true e more = cc e
    by false e more = more e

pub within : (low high n : ℕ) → not (is_within low high n) ≡ false → (low ≤ n) × (n ≤ high)
within low high n h = (grind (arith, nat_tests), grind (arith, nat_tests))

pub ticks_within : (first period : ℕ) → not (nat_le first 1000000 && is_within 1 1000000 period) ≡ false → AreTicks first period
ticks_within first period h = (grind (arith, nat_tests), grind (arith, nat_tests), grind (arith, nat_tests))
