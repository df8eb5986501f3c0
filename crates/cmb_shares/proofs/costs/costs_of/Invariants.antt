use Rattle.std.proofs.Common.{◌≡◌, length}
use Rattle.cmb_shares.proofs.costs.costs_of.Given as goal

abbrev pub invariant-loop-net : goal.invariant-loop-net
invariant-loop-net l = length l.costs.items ≡ l.net
