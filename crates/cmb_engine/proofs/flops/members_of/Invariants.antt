use Rattle.cmb_engine.proofs.GroupFacts.{AreMembersBelow}
use Rattle.cmb_engine.proofs.flops.members_of.Given as goal

abbrev pub invariant-loop-slot : goal.invariant-loop-slot
invariant-loop-slot l = AreMembersBelow l.cells l.slot l.members.items
