-- The longest path, by the latest arrivals where paths end.
use Rattle.std.specs.Prelude.{◌≡◌, ℕ, ◌<◌, ◌≤◌, Bool, true, length, All, Contains}
use Rattle.cmb_design_model.specs.Design.{Design}
use Rattle.cmb_design_model.specs.Timing.{clock_of}
use Rattle.cmb_count.specs.Clocks.{same_clock}
use Rattle.cmb_count.specs.Inner.Arrivals.{AreArrivals, Covers, time_of}
use Rattle.cmb_count.specs.Paths.{Settles}
use Rattle.cmb_count.specs.declared.arrivals.Arrival.{Arrival}
use Rattle.cmb_count.specs.declared.arrivals.Arrival.TheVariants.{Never, At, Unbounded as Ever}
use Rattle.cmb_count.specs.declared.arrivals.Arrivals.{Arrivals}
use Rattle.cmb_count.specs.declared.paths.Between.{Between}
use Rattle.cmb_count.specs.declared.paths.Between.TheVariants as between
use Rattle.cmb_count.specs.declared.paths.Longest.{Longest}
use Rattle.cmb_count.specs.declared.paths.Longest.TheVariants.{NoPath, Path as To, Unbounded}

abbrev pub time_at : Arrivals → ℕ → Arrival
time_at arrivals net = time_of arrivals.components.numbers.items arrivals.times.items net

pub record AreLatest (design : Design) (paths : Between) (arrivals : Arrivals) : Type 0 where
  pub nets : length arrivals.components.numbers.items ≡ length design.netlist.names
  pub below : All (λ number. number < length arrivals.times.items) arrivals.components.numbers.items
  pub latest : AreArrivals design paths arrivals.components.numbers.items arrivals.times.items

-- a path of so many ticks is no longer
abbrev pub Bounds : Longest → ℕ → Type 0
Bounds NoPath ticks = ⊥
Bounds (To net most) ticks = ticks ≤ most
Bounds Unbounded ticks = Unit {0}

-- there are such paths
abbrev pub AreFound : Design → Between → Longest → Type 0
AreFound design paths NoPath = Unit {0}
AreFound design paths (To net ticks) = Settles design paths net ticks
AreFound design paths Unbounded = (ticks : ℕ) → (net : ℕ) × (more : ℕ) × (ticks ≤ more) × Settles design paths net more

abbrev pub longest_at : ℕ → Arrival → Longest
longest_at net Never = NoPath
longest_at net (At ticks) = To net ticks
longest_at net Ever = Unbounded

-- the longest of the paths to some nets
pub record IsLongestSoFar (design : Design) (paths : Between) (arrivals : Arrivals) (IsOne : ℕ → Type 0) (longest : Longest) : Type 0 where
  pub found : AreFound design paths longest
  pub bounds : (net ticks : ℕ) → IsOne net → Covers (time_at arrivals net) ticks → Bounds longest ticks

-- an output, where paths may end at outputs
abbrev pub IsOutput : Between → Design → ℕ → Type 0
IsOutput between.All design net = Contains design.netlist.outputs net
IsOutput (between.Clocked clock) design net = ⊥
IsOutput (between.InputsTo clock) design net = ⊥
IsOutput (between.OthersTo clock) design net = ⊥

-- a flip-flop at whose data paths may end
abbrev pub is_sampled : Between → Design → ℕ → Bool
is_sampled between.All design flop = true
is_sampled (between.Clocked clock) design flop = same_clock clock (clock_of design flop)
is_sampled (between.InputsTo clock) design flop = same_clock clock (clock_of design flop)
is_sampled (between.OthersTo clock) design flop = same_clock clock (clock_of design flop)
