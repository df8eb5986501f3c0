use Rattle.std.proofs.Common.{◌≡◌}
use Rattle.cmb_shares.proofs.channel.look_at.Given as goal

abbrev pub invariant-loop-place : goal.invariant-loop-place
invariant-loop-place g l = l.channels ≡ l.fn.channels
