use Rattle.std.proofs.Common.{◌≤◌}
use Rattle.cmb_engine.proofs.windows.Windows.are_long.Given as goal

abbrev pub invariant-loop : goal.invariant-loop
invariant-loop l = l.begin ≤ l.clock
