use Rattle.std.proofs.Common.{◌≡◌, List, false, get_or, take}
use Rattle.std.specs.List.{AllZip}
use Rattle.cmb_engine.specs.Inner.Cells.{Cell}
use Rattle.cmb_engine.specs.Inner.Circuits.{IsFlopAt, IsGroup}
use Rattle.cmb_engine.proofs.ExportFacts.{AreMarkedOf}
use Rattle.cmb_engine.proofs.exports.marked_of.Given as goal

abbrev pub invariant-loop-k : goal.invariant-loop-k
invariant-loop-k l = record {
  clock : l.marked.clock ≡ l.group.clock;
  delay : l.marked.delay ≡ l.group.delay;
  exact : AreMarkedOf (λ n. get_or l.marks n false) (take l.k l.group.flops.items) l.marked.flops.items;
  cells : (cells : List Cell) → IsGroup cells l.group → AllZip (IsFlopAt cells l.group.clock l.group.delay) l.marked.flops.items l.marked.sources.items;
}
