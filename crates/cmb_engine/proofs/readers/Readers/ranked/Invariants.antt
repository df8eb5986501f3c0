use Rattle.std.proofs.Common.{◌≡◌, [], get_or, length, map, take}
use Rattle.cmb_engine.specs.Inner.Lists.{lists_between, AreStarts}
use Rattle.cmb_engine.specs.Inner.Orders.{rank_in}
use Rattle.cmb_engine.proofs.readers.Readers.ranked.Given as goal

abbrev pub invariant-loop-slot : goal.invariant-loop-slot
invariant-loop-slot l = record {
  starts : AreStarts (length l.nets.items) l.starts.items;
  lists : lists_between l.nets.items l.starts.items ≡ map (λ slot. map (rank_in l.order) (get_or (map (λ list. list.items) l.lists) slot [])) (take l.slot-index l.order.slots);
}
