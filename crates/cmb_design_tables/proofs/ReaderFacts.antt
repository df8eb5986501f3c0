-- The checks of a delay record, by those of its parts.
use Rattle.std.proofs.Common.{◌≡◌, ◌≤◌, ◌<◌, ℕ, List, [], ◌∷◌, Some, None, true, false, refl, arith, ◌∙◌}
use Rattle.std.proofs.lemmas.Bool.Decides.{nat_tests}
use Rattle.cmb_design_model.specs.declared.fault.DesignFault.{DesignFault}
use Rattle.cmb_design_model.specs.declared.fault.DesignFault.TheVariants as fault
use Rattle.cmb_design_model.specs.Checks.{first_fault}
use Rattle.cmb_design_tables.specs.Fields.{number}
use Rattle.cmb_design_model.specs.Nets.{is_within}
use Rattle.cmb_design_tables.specs.Readers.{delay_record_checks, delay_row_of, delayed_of, name_checks}
use Rattle.cmb_design_model.proofs.CheckFacts.{first_fault-none, first_fault-some}

pub delay_checks-name : (n : ℕ) (by name delay : List ℕ) (d : ℕ) (e : DesignFault) → number delay ≡ Some d
    → first_fault (name_checks n by name) ≡ Some e → first_fault (delay_record_checks n (by ∷ name ∷ delay ∷ [])) ≡ Some e
unfolding delay_record_checks first_fault
delay_checks-name n by name delay d e h f = rw h (first_fault-some (name_checks n by name) _ e f)

pub delay_checks-range : (n : ℕ) (by name delay : List ℕ) (d : ℕ) → number delay ≡ Some d → first_fault (name_checks n by name) ≡ None
    → is_within 1 1000000 d ≡ false → first_fault (delay_record_checks n (by ∷ name ∷ delay ∷ [])) ≡ Some (fault.DelayRange n)
unfolding delay_record_checks first_fault
delay_checks-range n by name delay d h f r = rw h (first_fault-none (name_checks n by name) _ f ∙ rw r refl)

pub delay_checks-none : (n : ℕ) (by name delay : List ℕ) (d : ℕ) → number delay ≡ Some d → first_fault (name_checks n by name) ≡ None
    → is_within 1 1000000 d ≡ true → first_fault (delay_record_checks n (by ∷ name ∷ delay ∷ [])) ≡ None
unfolding delay_record_checks first_fault
delay_checks-none n by name delay d h f r = rw h (first_fault-none (name_checks n by name) _ f ∙ rw r refl)

pub delay_row-is : (by name delay : List ℕ) (d : ℕ) → number delay ≡ Some d → delay_row_of (by ∷ name ∷ delay ∷ []) ≡ record { what = delayed_of by name; delay = d }
unfolding delay_row_of
delay_row-is by name delay d h = rw h refl

pub is_within-true : (low high n : ℕ) → low ≤ n → n ≤ high → is_within low high n ≡ true
is_within-true low high n a b = grind (arith, nat_tests)

pub is_within-below : (low high n : ℕ) → n < low → is_within low high n ≡ false
is_within-below low high n a = grind (arith, nat_tests)

pub is_within-above : (low high n : ℕ) → high < n → is_within low high n ≡ false
is_within-above low high n a = grind (arith, nat_tests)
