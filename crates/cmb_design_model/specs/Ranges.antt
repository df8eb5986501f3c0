-- How many rows a table has, and the ranges of their numbers.
use Rattle.std.specs.Prelude.{ℕ, ◌≤◌, List, length, All}
use Rattle.cmb_design_model.specs.declared.rows.DelayRow.{DelayRow}
use Rattle.cmb_design_model.specs.declared.rows.StimulusRow.{StimulusRow}
use Rattle.cmb_design_model.specs.declared.rows.ClockRow.{ClockRow}
use Rattle.cmb_design_model.specs.declared.rows.InitialRow.{InitialRow}

abbrev pub IsDelay : ℕ → Type 0
IsDelay delay = (1 ≤ delay) × (delay ≤ 1000000)

-- where the first sample ticks stand
abbrev pub AreTicks : ℕ → ℕ → Type 0
AreTicks first period = (first ≤ 1000000) × (1 ≤ period) × (period ≤ 1000000)

-- what holds of the numbers of a row of each table
abbrev pub IsDelayRow : DelayRow → Type 0
IsDelayRow row = IsDelay row.delay

abbrev pub IsStimulusRow : StimulusRow → Type 0
IsStimulusRow row = Unit {0}

abbrev pub IsClockRow : ClockRow → Type 0
IsClockRow row = AreTicks row.first row.period

abbrev pub IsInitialRow : InitialRow → Type 0
IsInitialRow row = Unit {0}

-- the rows of a table
pub record AreRows {R : Type 0} (IsLawful : R → Type 0) (rows : List R) : Type 0 where
  pub few : length rows ≤ 16777216
  pub lawful : All IsLawful rows
