use Rattle.std.proofs.Common.{◌≡◌, ℕ, ◌*◌, ◌<◌, ◌≤◌, true, false, length, get_or}
use Rattle.cmb_engine.specs.Inner.Bits.{has}
use Rattle.cmb_engine.proofs.wanted.marked_of.Given as goal

abbrev pub invariant-loop-net : goal.invariant-loop-net
invariant-loop-net l = record {
  room : length l.marked ≤ 64 * length l.set;
  all : (m : ℕ) → m < l.net → get_or l.marked m false ≡ true → has l.set m ≡ true;
}
