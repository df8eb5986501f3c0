use Rattle.std.proofs.Common.{◌≡◌, length}
use Rattle.cmb_engine.proofs.order.Order.count_waits.Given as goal

abbrev pub invariant-loop-slot : goal.invariant-loop-slot
invariant-loop-slot l = record {
  len : length l.waits ≡ length l.initial.waits;
}
