-- The largest delay of a design.
use Rattle.std.specs.Prelude.{◌≡◌, ℕ, ◌<◌, ◌≤◌, ◌⊎◌, length}
use Rattle.cmb_design_model.specs.Design.{Design}
use Rattle.cmb_design_model.specs.Nets.{pins_at}
use Rattle.cmb_design_model.specs.Timing.{delay}

-- no pin of the nets below this number has a greater delay
abbrev pub BoundsBelow : Design → ℕ → ℕ → Type 0
BoundsBelow design n most = (net pin : ℕ) → net < n → 1 ≤ pin → pin ≤ pins_at design.netlist net → delay design net pin ≤ most

-- it is 0, or the delay of a pin
abbrev pub IsDelayOfPin : Design → ℕ → Type 0
IsDelayOfPin design most = (most ≡ 0) ⊎ ((net : ℕ) × (pin : ℕ) × (net < length design.netlist.names) × (1 ≤ pin) × (pin ≤ pins_at design.netlist net) × (delay design net pin ≡ most))

-- the largest delay of all pins, 0 where there are none
pub record IsLargestDelay (design : Design) (most : ℕ) : Type 0 where
  pub bounds : BoundsBelow design (length design.netlist.names) most
  pub met : IsDelayOfPin design most
