use Rattle.std.proofs.Common.{◌≡◌}
use Rattle.cmb_shares.proofs.desk.give_all_back.Given as goal

abbrev pub invariant-loop-message : goal.invariant-loop-message
invariant-loop-message g l = l.sources ≡ l.fn.sources

abbrev pub decreases-loop-message : goal.decreases-loop-message
decreases-loop-message g l = goal.left-loop-message g l
