-- Paths of signals and how long they take: the longest path of static timing analysis (T. I. Kirkpatrick and N. R. Clark, PERT as an aid to
-- logic design, IBM Journal of Research and Development 10(2), 1966).
use Rattle.std.specs.Prelude.{◌≡◌, ℕ, ◌+◌, ◌<◌, ◌≤◌, ◌⊎◌, Bool, true, not, ◌&&◌, ◌||◌, List, length, slice_index, Contains, if◌then◌else◌}
use Rattle.cmb_netlist.specs.Netlist.{Netlist, driver_of}
use Rattle.cmb_netlist.specs.declared.netlist.Driver.TheVariants.{Flop}
use Rattle.cmb_design_model.specs.Design.{Design}
use Rattle.cmb_design_model.specs.Nets.{is_flop, is_input}
use Rattle.cmb_design_model.specs.Timing.{clock_of, delay}
use Rattle.cmb_design_model.specs.declared.rows.Clock.{Clock}
use Rattle.cmb_graph.specs.Loops.{targets}
use Rattle.cmb_graph.specs.declared.steps.Steps.TheVariants as steps
use Rattle.cmb_count.specs.Clocks.{is_clocked_by, same_clock}
use Rattle.cmb_count.specs.declared.paths.Between.{Between}
use Rattle.cmb_count.specs.declared.paths.Between.TheVariants.{All, Clocked, InputsTo, OthersTo}
use Rattle.cmb_count.specs.declared.paths.Longest.{Longest}
use Rattle.cmb_count.specs.declared.paths.Longest.TheVariants.{NoPath, Path as To, Unbounded}

-- the operands of the gate that drives a net; none where no gate does
abbrev pub operands : Netlist → ℕ → List ℕ
operands netlist net = targets netlist steps.Gates net

-- a path from a net through gates, and its ticks: the net itself, or a path to an operand of a gate and on through that pin, by its delay.
-- Operand k is on pin k + 1
pub data Path (design : Design) (from : ℕ) : ℕ → ℕ → Type 0 where
  here : Path design from from 0
  on : {ticks : ℕ} (gate k : ℕ) → k < length (operands design.netlist gate) → Path design from (slice_index (operands design.netlist gate) k) ticks
      → Path design from gate (ticks + delay design gate (k + 1))

-- where paths begin: at inputs and flip-flops, at the flip-flops of one clock, at inputs, or at the flip-flops of other clocks
abbrev pub is_origin : Between → Design → ℕ → Bool
is_origin All design net = is_input (driver_of design.netlist net) || is_flop (driver_of design.netlist net)
is_origin (Clocked clock) design net = is_clocked_by design clock net
is_origin (InputsTo clock) design net = is_input (driver_of design.netlist net)
is_origin (OthersTo clock) design net = is_flop (driver_of design.netlist net) && not (same_clock clock (clock_of design net))

-- a flip-flop shows a sample its delay after it was taken; an input changes at once
abbrev pub launch : Design → ℕ → ℕ
launch design net = if is_flop (driver_of design.netlist net) then delay design net 1 else 0

-- a path leads to the net, and a change comes by it after so many ticks
pub record Arrives (design : Design) (between : Between) (net ticks : ℕ) : Type 0 where
  pub from : ℕ
  pub after : ℕ
  pub within : from < length design.netlist.names
  pub origin : is_origin between design from ≡ true
  pub path : Path design from net after
  pub sum : ticks ≡ launch design from + after

-- data of a flip-flop of this clock
abbrev pub IsDataOf : Clock → Design → ℕ → Type 0
IsDataOf clock design net = (flop : ℕ) × (driver_of design.netlist flop ≡ Flop net) × (same_clock clock (clock_of design flop) ≡ true)

-- where paths end: at outputs and at data of flip-flops, or at data of the flip-flops of one clock
abbrev pub IsEnd : Between → Design → ℕ → Type 0
IsEnd All design net = Contains design.netlist.outputs net ⊎ ((flop : ℕ) × (driver_of design.netlist flop ≡ Flop net))
IsEnd (Clocked clock) design net = IsDataOf clock design net
IsEnd (InputsTo clock) design net = IsDataOf clock design net
IsEnd (OthersTo clock) design net = IsDataOf clock design net

-- a path ends at the net, after so many ticks
abbrev pub Settles : Design → Between → ℕ → ℕ → Type 0
Settles design between net ticks = IsEnd between design net × Arrives design between net ticks

-- there is no path; none takes longer than one that ends at this net; or some take longer than any number of ticks
abbrev pub IsLongest : Design → Between → Longest → Type 0
IsLongest design between NoPath = (net ticks : ℕ) → Settles design between net ticks → ⊥
IsLongest design between (To net ticks) = Settles design between net ticks × ((other more : ℕ) → Settles design between other more → more ≤ ticks)
IsLongest design between Unbounded = (ticks : ℕ) → (net : ℕ) × (more : ℕ) × (ticks ≤ more) × Settles design between net more
