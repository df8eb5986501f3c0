use Rattle.std.proofs.Common.{List, false, get_or, take}
use Rattle.std.specs.Prelude.{All}
use Rattle.cmb_engine.specs.Inner.Cells.{Cell}
use Rattle.cmb_engine.specs.Inner.Circuits.{IsGroup}
use Rattle.cmb_engine.specs.Inner.Exports.{slots_of}
use Rattle.cmb_engine.proofs.ExportFacts.{AreMarkedOf}
use Rattle.cmb_engine.proofs.exports.exports_of.Given as goal

abbrev pub invariant-loop-group : goal.invariant-loop-group
invariant-loop-group l = record {
  exact : AreMarkedOf (λ n. get_or l.crossing n false) (slots_of (take l.group-index l.flops)) (slots_of l.exports.items);
  groups : (cells : List Cell) → All (IsGroup cells) l.flops → All (IsGroup cells) l.exports.items;
}
