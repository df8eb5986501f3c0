use Rattle.std.proofs.Common.{◌-◌, List, [], take}
use Rattle.std.specs.Prelude.{All}
use Rattle.cmb_engine.specs.Inner.Cells.{Cell}
use Rattle.cmb_engine.specs.Inner.Circuits.{IsGroup}
use Rattle.cmb_engine.specs.Inner.Exports.{slots_of, AddsAhead}
use Rattle.cmb_engine.proofs.ahead.tell_groups.Given as goal

abbrev pub invariant-loop-group : goal.invariant-loop-group
invariant-loop-group l = (cells : List Cell) → All (IsGroup cells) l.groups → AddsAhead cells l.words (slots_of (take l.group-index l.groups)) (l.to - l.ticks) l.to [] l.told.items
