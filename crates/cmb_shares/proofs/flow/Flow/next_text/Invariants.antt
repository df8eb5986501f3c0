use Rattle.std.proofs.Common.{◌≡◌}
use Rattle.cmb_shares.proofs.flow.Flow.next_text.Given as goal

abbrev pub invariant-loop : goal.invariant-loop
invariant-loop g l = l.self ≡ l.fn.self
