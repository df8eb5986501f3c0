use Rattle.cmb_engine.specs.Inner.Known.{known_levels}
use Rattle.cmb_engine.proofs.GroupFacts.{AreMarking}
use Rattle.cmb_engine.proofs.flops.mark_known.Given as goal

abbrev pub invariant-loop-k : goal.invariant-loop-k
invariant-loop-k l = AreMarking l.order (known_levels l.ones) l.first l.group l.k l.initial.marks l.marks
