use Rattle.std.proofs.Common.{◌≡◌}
use Rattle.cmb_run_free.proofs.collect.take_some.Given as goal

abbrev pub invariant-loop : goal.invariant-loop
invariant-loop g l = l.backlog.written ≡ l.fn.backlog.written
