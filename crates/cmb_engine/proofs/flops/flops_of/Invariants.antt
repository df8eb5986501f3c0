use Rattle.std.specs.Prelude.{All}
use Rattle.cmb_engine.specs.Inner.Circuits.{IsGroup}
use Rattle.cmb_engine.proofs.GroupFacts.{AreGrouped}
use Rattle.cmb_engine.proofs.flops.flops_of.Given as goal

abbrev pub invariant-loop-member : goal.invariant-loop-member
invariant-loop-member l = record {
  grouped : AreGrouped l.member-items l.member-index l.groups.items;
  each : All (IsGroup l.cells) l.groups.items;
}
