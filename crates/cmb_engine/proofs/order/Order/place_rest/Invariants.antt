use Rattle.std.proofs.Common.{◌≡◌, ◌<◌, ℕ, length}
use Rattle.cmb_engine.specs.Inner.Orders.{ArePlaced, IsPlaced}
use Rattle.cmb_engine.proofs.order.Order.place_rest.Given as goal

abbrev pub invariant-loop-slot : goal.invariant-loop-slot
invariant-loop-slot l = record {
  ranked : length l.self.ranks ≡ length l.initial.self.ranks;
  placed : ArePlaced l.self;
  stand : (slot : ℕ) → slot < l.slot → IsPlaced l.self slot;
}
