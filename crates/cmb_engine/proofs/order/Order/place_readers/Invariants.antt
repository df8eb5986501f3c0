use Rattle.std.proofs.Common.{◌≡◌, length}
use Rattle.cmb_engine.specs.Inner.Orders.{ArePlaced}
use Rattle.cmb_engine.proofs.order.Order.place_readers.Given as goal

abbrev pub invariant-loop-rank : goal.invariant-loop-rank
invariant-loop-rank l = record {
  count : length l.waits ≡ length l.initial.waits;
  ranked : length l.self.ranks ≡ length l.initial.self.ranks;
  placed : ArePlaced l.self;
}
