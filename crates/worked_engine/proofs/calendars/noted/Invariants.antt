use Rattle.std.proofs.Common.{◌≡◌}
use Rattle.worked_engine.proofs.calendars.noted.Given as goal

abbrev pub invariant-loop-tell : goal.invariant-loop-tell
invariant-loop-tell l = record { horizon : l.calendar.horizon ≡ 130; clock : l.calendar.clock ≡ 0 }
