use Rattle.std.proofs.Common.{take}
use Rattle.cmb_graph.specs.Inner.Search.{AreSet}
use Rattle.cmb_graph.proofs.part.set_all.Given as goal

abbrev pub invariant-loop-place : goal.invariant-loop-place
invariant-loop-place g l = AreSet l.fn.value l.initial.values (take l.place-index l.places) l.values
