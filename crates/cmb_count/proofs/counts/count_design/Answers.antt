use Rattle.std.proofs.Common.{length, ap, subst, ◌∙◌}
use Rattle.cmb_netlist.specs.Netlist.{Netlist}
use Rattle.cmb_graph.specs.declared.steps.Steps.TheVariants as steps
use Rattle.cmb_count.specs.declared.drivers.DriverKind.TheVariants.{Inputs, Flops}
use Rattle.cmb_count.specs.Counting.{AreGateCounts}
use Rattle.cmb_count.specs.DriverKinds.{kind_count}
use Rattle.cmb_count.specs.Loops.{IsLoopCount}
use Rattle.cmb_count.specs.Unused.{unused_count}
use Rattle.cmb_count.proofs.counts.count_design.Goals as goal

pub returns : goal.returns
returns c =
    let same = c.netlist-netlist.ensures in
    record {
      nets = c.len.ensures.value ∙ ap (λ (netlist : Netlist). length netlist.names) same;
      inputs = c.count_drivers.ensures ∙ ap (λ (netlist : Netlist). kind_count netlist Inputs) same;
      silent = c.count_silent.ensures;
      gates = subst (λ (netlist : Netlist). AreGateCounts netlist c.count_gates.result) same c.count_gates.ensures;
      flops = c.count_drivers-2.ensures ∙ ap (λ (netlist : Netlist). kind_count netlist Flops) same;
      still = c.count_still.ensures;
      in_loops = subst (λ (netlist : Netlist). IsLoopCount netlist steps.All c.in_ok-count_loops.field-0) same c.in_ok-count_loops.ensures;
      in_gate_loops = subst (λ (netlist : Netlist). IsLoopCount netlist steps.Gates c.in_ok-count_loops-2.field-0) same c.in_ok-count_loops-2.ensures;
      unused = c.in_ok-count_unused.ensures ∙ ap unused_count same;
      largest_delay = c.largest_delay.ensures;
      longest = c.in_ok-longest_path.ensures;
      clocks = c.in_ok-count_clocks.ensures;
      delay_rows = c.delay_rows.ensures;
      stimulus_rows = c.stimulus_rows.ensures;
      clock_rows = c.clock_rows.ensures;
      initial_rows = c.initial_rows.ensures;
    }
