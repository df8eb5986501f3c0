use Rattle.std.proofs.Common.{◌≡◌, ◌++◌, map, take}
use Rattle.cmb_engine.specs.Inner.Orders.{rank_in}
use Rattle.cmb_engine.proofs.readers.push_ranks.Given as goal

abbrev pub invariant-loop-slot : goal.invariant-loop-slot
invariant-loop-slot l = l.ranks.items ≡ l.initial.ranks.items ++ map (rank_in l.order) (take l.slot-index l.slots)
