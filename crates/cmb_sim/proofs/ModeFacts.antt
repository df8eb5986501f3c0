-- Why a mode's checks refuse a design, or don't.
use Rattle.std.proofs.Common.{◌≡◌, true, false, nat_lt, [], None, Some, refl}
use Rattle.cmb_design_model.specs.Checks.{first_fault}
use Rattle.cmb_design_model.specs.Design.{Design}
use Rattle.cmb_design_model.specs.Plain.{cells_of}
use Rattle.cmb_design_model.specs.declared.fault.DesignFault.TheVariants.{TableTooLarge}
use Rattle.cmb_cli_line.specs.declared.mode.Mode.TheVariants.{Plain}
use Rattle.cmb_sim.specs.Simulation.{mode_checks}

pub plain_fits : (design : Design) → nat_lt 16777216 (cells_of design) ≡ false → first_fault (mode_checks Plain design) ≡ None
unfolding first_fault
plain_fits design e = rw e refl

pub plain_too_large : (design : Design) → nat_lt 16777216 (cells_of design) ≡ true → first_fault (mode_checks Plain design) ≡ Some TableTooLarge
unfolding first_fault
plain_too_large design e = rw e refl

pub no_checks : first_fault [] ≡ None
unfolding first_fault
no_checks = refl

pub ruleset mode_facts = (plain_fits, plain_too_large, no_checks)
