-- The checks of a table of what is expected, part by part.
use Rattle.std.proofs.Common.{◌≡◌, ◌⊎◌, inl, inr, ℕ, List, ◌++◌, None, Some, subst, sym, ◌∙◌}
use Rattle.cmb_design_model.specs.Checks.{first_fault}
use Rattle.cmb_design_model.specs.Design.{Design}
use Rattle.cmb_design_model.specs.declared.fault.DesignFault.{DesignFault}
use Rattle.cmb_design_model.specs.declared.fault.DesignFault.TheVariants.{Memory}
use Rattle.cmb_faults.specs.Numbers.{design_as_fault}
use Rattle.cmb_inputs.specs.Expected.{AreUnexpected, expected_checks}
use Rattle.cmb_inputs.proofs.Spelled.{Stops}

found : (design : Design) (text : List ℕ) (e : DesignFault) → first_fault (expected_checks design text) ≡ Some e → AreUnexpected design text (design_as_fault e)
found design text Memory h = tt
found design text e h = h

pub AreUnexpected-of : (design : Design) (text : List ℕ) (e : DesignFault) → Stops (expected_checks design text) e → AreUnexpected design text (design_as_fault e)
AreUnexpected-of design text e (inl m) = let P : DesignFault → Type 0 = λ d. AreUnexpected design text (design_as_fault d) in subst P (sym m) tt
AreUnexpected-of design text e (inr h) = found design text e h
