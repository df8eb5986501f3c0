use Rattle.std.proofs.Common.{◌≡◌, take, length}
use Rattle.cmb_core_cluster.specs.Clusters.{AreOperands}
use Rattle.cmb_core_cluster.specs.Inner.Opening.{AreAt}
use Rattle.cmb_core_cluster.proofs.open.operands_on.Given as goal

abbrev pub invariant-loop-i : goal.invariant-loop-i
invariant-loop-i l = record {
  operands : AreOperands l.design l.net 1 (take l.i l.sources) l.operands.items;
  places : AreAt l.places l.operands.items;
  count : length l.operands.items ≡ l.i;
}
