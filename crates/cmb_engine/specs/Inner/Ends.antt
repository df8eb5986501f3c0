-- Where windows end that end at arrivals.
use Rattle.std.specs.Prelude.{ℕ, ◌+◌, ◌<◌, ◌≤◌, Bool, List, Contains}
use Rattle.cmb_design_model.specs.Design.{Design}
use Rattle.cmb_design_model.specs.Timing.{clock_of, delay}
use Rattle.cmb_engine.specs.Crossings.{IsCrossing}
use Rattle.cmb_engine.specs.declared.windows.Pace.{Pace}

-- numbers as those of a design's clocks and delays
abbrev pub IsPaced : Pace → Type 0
IsPaced pace = (pace.first ≤ 2000000) × (1 ≤ pace.period) × (pace.period ≤ 1000000) × (1 ≤ pace.lead) × (pace.lead ≤ 1000000)

-- when the samples of a flip-flop arrive; those that were taken before a window don't end it
abbrev pub pace_of : Design → ℕ → Pace
pace_of design net = record {
  first = (clock_of design net).first + delay design net 1;
  period = (clock_of design net).period;
  lead = delay design net 1;
}

-- each crossing flip-flop has its pace among these, and a delay that is shorter than a window may be
abbrev pub AreEnding : Design → List Bool → ℕ → List Pace → Type 0
AreEnding design crossing width paces =
    (net : ℕ) → IsCrossing design crossing net → Contains paces (pace_of design net) × (delay design net 1 < width)
