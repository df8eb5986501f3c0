use Rattle.std.proofs.Common.{◌≡◌, map, take}
use Rattle.cmb_engine.specs.Inner.Cells.{cell_at}
use Rattle.cmb_engine.proofs.nodes.Nodes.of.Given as goal

abbrev pub invariant-loop-slot : goal.invariant-loop-slot
invariant-loop-slot l = record {
  slots : l.nodes.slots ≡ take l.slot-index l.slots;
  cells : l.nodes.cells ≡ map (cell_at l.cells) (take l.slot-index l.slots);
}
