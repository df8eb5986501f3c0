-- What there is of each kind of driver in a design.
use Rattle.std.specs.Prelude.{◌≡◌, length}
use Rattle.cmb_netlist.specs.Netlist.{Netlist}
use Rattle.cmb_netlist.specs.declared.netlist.Kind.TheVariants as kind
use Rattle.cmb_design_model.specs.Design.{Design}
use Rattle.cmb_graph.specs.declared.steps.Steps.TheVariants as steps
use Rattle.cmb_count.specs.Clocks.{clock_count}
use Rattle.cmb_count.specs.Largest.{IsLargestDelay}
use Rattle.cmb_count.specs.Loops.{IsLoopCount}
use Rattle.cmb_count.specs.DriverKinds.{kind_count, silent_count, still_count}
use Rattle.cmb_count.specs.Paths.{IsLongest}
use Rattle.cmb_count.specs.Unused.{unused_count}
use Rattle.cmb_count.specs.declared.counts.Counts.{Counts}
use Rattle.cmb_count.specs.declared.counts.GateCounts.{GateCounts}
use Rattle.cmb_count.specs.declared.drivers.DriverKind.TheVariants.{Inputs, Gates, Flops}
use Rattle.cmb_count.specs.declared.paths.Between.TheVariants.{All}

-- the gates of each kind
pub record AreGateCounts (netlist : Netlist) (gates : GateCounts) : Type 0 where
  pub and : gates.and ≡ kind_count netlist (Gates kind.And)
  pub nand : gates.nand ≡ kind_count netlist (Gates kind.Nand)
  pub or : gates.or ≡ kind_count netlist (Gates kind.Or)
  pub nor : gates.nor ≡ kind_count netlist (Gates kind.Nor)
  pub xor : gates.xor ≡ kind_count netlist (Gates kind.Xor)
  pub xnor : gates.xnor ≡ kind_count netlist (Gates kind.Xnor)
  pub not : gates.not ≡ kind_count netlist (Gates kind.Not)
  pub buff : gates.buff ≡ kind_count netlist (Gates kind.Buff)

pub record AreCounts (design : Design) (counts : Counts) : Type 0 where
  pub nets : counts.nets ≡ length design.netlist.names
  pub inputs : counts.inputs ≡ kind_count design.netlist Inputs
  pub silent : counts.silent ≡ silent_count design
  pub gates : AreGateCounts design.netlist counts.gates
  pub flops : counts.flops ≡ kind_count design.netlist Flops
  pub still : counts.still ≡ still_count design
  pub in_loops : IsLoopCount design.netlist steps.All counts.in_loops
  pub in_gate_loops : IsLoopCount design.netlist steps.Gates counts.in_gate_loops
  pub unused : counts.unused ≡ unused_count design.netlist
  pub largest_delay : IsLargestDelay design counts.largest_delay
  pub longest : IsLongest design All counts.longest
  pub clocks : counts.clocks ≡ clock_count design
  pub delay_rows : counts.delay_rows ≡ length design.delays
  pub stimulus_rows : counts.stimulus_rows ≡ length design.stimuli
  pub clock_rows : counts.clock_rows ≡ length design.clocks
  pub initial_rows : counts.initial_rows ≡ length design.initial
