use Rattle.std.proofs.Common.{◌≡◌, ℕ, ◌<◌, false, true, get_or, length}
use Rattle.cmb_shares.proofs.opening.told_by.Given as goal

abbrev pub invariant-loop-net : goal.invariant-loop-net
invariant-loop-net l = record {
  count : length l.told.items ≡ l.net;
  told : (net : ℕ) → net < l.net → get_or l.owners net 0 ≡ l.number → get_or l.marks net false ≡ true → get_or l.told.items net false ≡ true;
}
