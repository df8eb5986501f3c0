use Rattle.std.proofs.Common.{◌≡◌, length}
use Rattle.cmb_engine.specs.Inner.Orders.{ArePlaced}
use Rattle.cmb_engine.proofs.order.Order.release.Given as goal

abbrev pub invariant-loop-reader : goal.invariant-loop-reader
invariant-loop-reader l = record {
  count : length l.waits ≡ length l.initial.waits;
  ranked : length l.self.ranks ≡ length l.initial.self.ranks;
  placed : ArePlaced l.self;
}
