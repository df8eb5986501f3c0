-- What looks like a slip in a design that was simulated.
use Rattle.std.specs.Prelude.{◌≡◌, ℕ, ◌<◌, Option, None, Some, ⊤, true, false, length}
use Rattle.cmb_count.specs.DriverKinds.{is_silent}
use Rattle.cmb_count.specs.Paths.{IsLongest}
use Rattle.cmb_count.specs.declared.paths.Between.TheVariants.{Clocked}
use Rattle.cmb_count.specs.declared.paths.Longest.TheVariants.{Path as To}
use Rattle.cmb_design_model.specs.Design.{Design}
use Rattle.cmb_design_model.specs.declared.rows.Clock.{Clock}

-- the net is the first input that is x at each tick below the horizon; none: there is none
abbrev pub IsFirstSilent : Design → Option ℕ → Type 0
IsFirstSilent design None = (net : ℕ) → net < length design.netlist.names → is_silent design net ≡ false
IsFirstSilent design (Some net) =
    (net < length design.netlist.names) × (is_silent design net ≡ true)
    × ((lower : ℕ) → lower < net → is_silent design lower ≡ false)

-- the longest path between the flip-flops of a clock ends at this net and takes more ticks than its period
abbrev pub IsLate : Design → Clock → ℕ → ℕ → Type 0
IsLate design clock net ticks = IsLongest design (Clocked clock) (To net ticks) × (clock.period < ticks)
