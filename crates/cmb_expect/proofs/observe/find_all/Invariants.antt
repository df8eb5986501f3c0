use Rattle.std.proofs.Common.{◌≡◌, ◌≤◌, ◌-◌, length}
use Rattle.cmb_design_model.specs.Exact.{nets_of}
use Rattle.cmb_design_model.specs.Value.{value}
use Rattle.cmb_expect.specs.Inner.Probes.{AreFound, AreLater}
use Rattle.cmb_expect.specs.Inner.Traces.{AreTraces}
use Rattle.cmb_expect.proofs.observe.find_all.Given as goal

abbrev pub invariant-loop-done : goal.invariant-loop-done
invariant-loop-done l = record {
  design : l.engine.design ≡ l.design;
  within : l.engine.clock ≤ l.design.horizon;
  traces : AreTraces (value l.design) (nets_of l.design) l.engine.clock l.engine.clock l.traces;
  some : l.done ≤ length l.probes;
  later : AreLater l.engine.clock l.probes l.done;
  found : AreFound (value l.design) l.probes l.done l.found;
}

abbrev pub decreases-loop-done : goal.decreases-loop-done
decreases-loop-done l = l.design.horizon - l.engine.clock
