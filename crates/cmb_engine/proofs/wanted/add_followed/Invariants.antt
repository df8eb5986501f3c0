use Rattle.std.proofs.Common.{◌≡◌, ℕ, ◌<◌, true, length, get_or}
use Rattle.cmb_engine.specs.Inner.Bits.{has}
use Rattle.cmb_engine.specs.declared.cell.Pin.{Pin}
use Rattle.cmb_engine.proofs.wanted.add_followed.Given as goal

abbrev pub invariant-loop-line : goal.invariant-loop-line
invariant-loop-line l = record {
  room : length l.set ≡ length l.fn.set;
  kept : (net : ℕ) → has l.fn.set net ≡ true → has l.set net ≡ true;
  followed : (k : ℕ) (d : Pin) → k < l.line-index → has l.set (get_or l.lines k d).net ≡ true;
}
