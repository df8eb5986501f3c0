use Rattle.std.proofs.Common.{◌≡◌, ◌<◌, ℕ, true, length, get_or}
use Rattle.cmb_engine.specs.Inner.Bits.{has}
use Rattle.cmb_engine.proofs.settle.mark_all.Given as goal

abbrev pub invariant-loop-net : goal.invariant-loop-net
invariant-loop-net l = record {
  len : length l.marks ≡ length l.initial.marks;
  kept : (m : ℕ) → has l.initial.marks m ≡ true → has l.marks m ≡ true;
  marked : (k : ℕ) → k < l.net-index → has l.marks (get_or l.nets k 0) ≡ true;
}
