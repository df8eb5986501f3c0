-- The nets and clocks behind some counts.
use Rattle.std.specs.Prelude.{◌≡◌, ℕ, Bool, false, List, length, map, slice_index_or, take, All}
use Rattle.std.specs.List.{filter, range_with_len}
use Rattle.cmb_design_model.specs.Design.{Design}
use Rattle.cmb_design_model.specs.Timing.{clock_of}
use Rattle.cmb_design_model.specs.declared.rows.Clock.{Clock}
use Rattle.cmb_graph.specs.Loops.{AreLoops}
use Rattle.cmb_graph.specs.declared.steps.Steps.TheVariants as steps
use Rattle.cmb_count.specs.Clocks.{is_first_clocked}
use Rattle.cmb_count.specs.DriverKinds.{is_silent, is_still}
use Rattle.cmb_count.specs.Paths.{IsLongest}
use Rattle.cmb_count.specs.Unused.{is_unused}
use Rattle.cmb_count.specs.declared.clock_paths.ClockPaths.{ClockPaths}
use Rattle.cmb_count.specs.declared.findings.Finding.{Finding}
use Rattle.cmb_count.specs.declared.findings.Finding.TheVariants.{Silent, Still, InGateLoops, Unused}
use Rattle.cmb_count.specs.declared.findings.Findings.{Findings}
use Rattle.cmb_count.specs.declared.paths.Between.TheVariants.{Clocked, InputsTo, OthersTo}

-- the first so many of the nets that pass a test, by rising number
abbrev pub first_nets : ℕ → (ℕ → Bool) → ℕ → List ℕ
first_nets most test nets = take most (filter test (range_with_len 0 nets))

-- the first so many of the nets that are found
abbrev pub IsFound : Finding → Design → ℕ → List ℕ → Type 0
IsFound Silent design most nets = nets ≡ first_nets most (is_silent design) (length design.netlist.names)
IsFound Still design most nets = nets ≡ first_nets most (is_still design) (length design.netlist.names)
IsFound InGateLoops design most nets = (marks : List Bool) × AreLoops design.netlist steps.Gates marks
    × (nets ≡ first_nets most (λ net. slice_index_or marks net false) (length design.netlist.names))
IsFound Unused design most nets = nets ≡ first_nets most (is_unused design.netlist) (length design.netlist.names)

-- the longest paths to data of a clock's flip-flops: from its own flip-flops, from inputs, and from flip-flops of other clocks
pub record ArePaths (design : Design) (paths : ClockPaths) : Type 0 where
  pub own : IsLongest design (Clocked paths.clock) paths.own
  pub inputs : IsLongest design (InputsTo paths.clock) paths.inputs
  pub others : IsLongest design (OthersTo paths.clock) paths.others

abbrev pub clock_in : ClockPaths → Clock
clock_in paths = paths.clock

-- the first so many clocks, in the order of their first flip-flops, with their paths
pub record AreClockPaths (design : Design) (most : ℕ) (paths : List ClockPaths) : Type 0 where
  pub clocks : map clock_in paths ≡ map (clock_of design) (first_nets most (is_first_clocked design) (length design.netlist.names))
  pub longest : All (ArePaths design) paths

pub record AreFindings (design : Design) (most : ℕ) (findings : Findings) : Type 0 where
  pub silent : IsFound Silent design most findings.silent.items
  pub still : IsFound Still design most findings.still.items
  pub in_gate_loops : IsFound InGateLoops design most findings.in_gate_loops.items
  pub unused : IsFound Unused design most findings.unused.items
  pub clocks : AreClockPaths design most findings.clocks.items
