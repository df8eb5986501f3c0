use Rattle.std.proofs.Common.{◌≡◌, length}
use Rattle.cmb_engine.specs.Inner.Orders.{ArePlaced}
use Rattle.cmb_engine.proofs.order.Order.place_ready.Given as goal

abbrev pub invariant-loop-slot : goal.invariant-loop-slot
invariant-loop-slot l = record {
  ranked : length l.self.ranks ≡ length l.initial.self.ranks;
  placed : ArePlaced l.self;
}
