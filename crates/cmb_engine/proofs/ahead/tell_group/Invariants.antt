use Rattle.std.proofs.Common.{◌-◌, List, take}
use Rattle.cmb_engine.specs.Inner.Cells.{Cell}
use Rattle.cmb_engine.specs.Inner.Circuits.{IsGroup}
use Rattle.cmb_engine.specs.Inner.Exports.{AddsAhead}
use Rattle.cmb_engine.proofs.ahead.tell_group.Given as goal

abbrev pub invariant-loop-k : goal.invariant-loop-k
invariant-loop-k l = (cells : List Cell) → IsGroup cells l.group → AddsAhead cells l.words (take l.k l.group.flops.items) (l.to - l.ticks) l.to l.initial.told.items l.told.items
