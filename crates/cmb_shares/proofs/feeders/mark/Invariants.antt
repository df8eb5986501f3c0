use Rattle.std.proofs.Common.{◌≡◌, ℕ, ◌<◌, true, false, length, get_or}
use Rattle.cmb_shares.proofs.feeders.mark.Given as goal

abbrev pub invariant-loop-net : goal.invariant-loop-net
invariant-loop-net l = record {
  len : length l.feeders.items ≡ length l.fn.feeders.items;
  kept : (k : ℕ) → get_or l.fn.feeders.items k false ≡ true → get_or l.feeders.items k false ≡ true;
  marked : (j : ℕ) (d : ℕ) → j < l.net-index → j < length l.nets → get_or l.driven (get_or l.nets j d) false ≡ false → get_or l.feeders.items (get_or l.owners (get_or l.nets j d) 0) false ≡ true;
}
