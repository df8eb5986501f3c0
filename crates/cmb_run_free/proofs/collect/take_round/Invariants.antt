use Rattle.std.proofs.Common.{◌≡◌}
use Rattle.cmb_run_free.proofs.collect.take_round.Given as goal

abbrev pub invariant-loop-end : goal.invariant-loop-end
invariant-loop-end g l = l.backlog.written ≡ l.fn.backlog.written
