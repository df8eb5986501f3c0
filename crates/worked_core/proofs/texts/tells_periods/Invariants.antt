use Rattle.std.proofs.Common.{◌≡◌}
use Rattle.worked_core.proofs.texts.tells_periods.Given as goal

abbrev pub invariant-loop-period : goal.invariant-loop-period
invariant-loop-period g l = l.writer.design ≡ l.design
