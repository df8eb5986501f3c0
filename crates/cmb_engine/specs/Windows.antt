-- Where windows end: at ticks at which samples arrive.
use Rattle.std.specs.Prelude.{ℕ, ◌+◌, ◌-◌, ◌%◌, ◌<◌, ◌≤◌, nat_lt, List, [], ◌∷◌, min, if◌then◌else◌}
use Rattle.cmb_engine.specs.declared.windows.Pace.{Pace}

-- the most ticks of a window, the tick at which the last one ends, and the samples whose arrivals end windows
pub record Windows : Type 0 where
  pub width : ℕ
  pub horizon : ℕ
  pub paces : List Pace

-- the first tick from one on at which samples arrive
abbrev pub arrival_from : Pace → ℕ → ℕ
arrival_from pace tick =
    if nat_lt pace.first tick then tick + pace.period - 1 - (tick - 1 - pace.first) % pace.period else pace.first

-- the first arrival that ends a window from a clock on, or else the last tick at which it may end
abbrev pub end_by : List Pace → ℕ → ℕ → ℕ
end_by [] clock last = last
end_by (pace ∷ paces) clock last = min (arrival_from pace (clock + pace.lead)) (end_by paces clock last)

-- where a window ends that begins at a clock
abbrev pub end_of : Windows → ℕ → ℕ
end_of windows clock = end_by windows.paces clock (min (clock + windows.width) windows.horizon)

-- each window has a tick at least, and ends within the horizon
abbrev pub HaveTicks : Windows → Type 0
HaveTicks windows = (clock : ℕ) → clock < windows.horizon → (clock < end_of windows clock) × (end_of windows clock ≤ windows.horizon)
