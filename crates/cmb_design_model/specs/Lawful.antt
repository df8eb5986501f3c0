-- What every design that was made keeps.
use Rattle.std.specs.Prelude.{◌≡◌, ℕ, ◌≤◌, None}
use Rattle.cmb_netlist.specs.Netlist.{IsNetlist}
use Rattle.cmb_design_model.specs.Checks.{first_fault}
use Rattle.cmb_design_model.specs.Design.{Design}
use Rattle.cmb_design_model.specs.Ranges.{AreTicks, IsDelay}
use Rattle.cmb_design_model.specs.Settings.{design_checks}
use Rattle.cmb_design_model.specs.Timing.{clock_of, delay}

-- its netlist is lawful, no check stands, and its ticks and delays are small
pub record IsDesign (design : Design) : Type 0 where
  pub netlist : IsNetlist design.netlist
  pub no_fault : first_fault (design_checks design) ≡ None
  pub horizon : (1 ≤ design.horizon) × (design.horizon ≤ 1000000)
  pub delays : (net pin : ℕ) → IsDelay (delay design net pin)
  pub clocks : (net : ℕ) → AreTicks (clock_of design net).first (clock_of design net).period
