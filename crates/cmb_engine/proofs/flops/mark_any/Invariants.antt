use Rattle.cmb_engine.specs.Inner.Words.{levels_of}
use Rattle.cmb_engine.proofs.GroupFacts.{AreMarking}
use Rattle.cmb_engine.proofs.flops.mark_any.Given as goal

abbrev pub invariant-loop-k : goal.invariant-loop-k
invariant-loop-k l = AreMarking l.order (levels_of l.words) l.first l.group l.k l.initial.marks l.marks
