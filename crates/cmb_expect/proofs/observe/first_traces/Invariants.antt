use Rattle.cmb_design_model.specs.Value.{value}
use Rattle.cmb_expect.specs.Inner.Traces.{AreTraces}
use Rattle.cmb_expect.proofs.observe.first_traces.Given as goal

abbrev pub invariant-loop-net : goal.invariant-loop-net
invariant-loop-net l = AreTraces (value l.fn.design) l.net 0 1 l.traces.items
