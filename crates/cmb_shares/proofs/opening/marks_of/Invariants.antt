use Rattle.std.proofs.Common.{◌≡◌, ℕ, ◌<◌, false, true, get_or, length}
use Rattle.cmb_shares.proofs.opening.marks_of.Given as goal

abbrev pub invariant-loop-net : goal.invariant-loop-net
invariant-loop-net l = record {
  count : length l.marks.items ≡ l.count;
  marked : (place : ℕ) → place < l.net-index → get_or l.marks.items (get_or l.nets place 0) false ≡ true;
}
