use Rattle.std.proofs.Common.{map}
use Rattle.cmb_wheel.specs.Inner.Days.{Clears}
use Rattle.cmb_wheel.proofs.days.remove_early.Given as goal

abbrev pub invariant-loop-day : goal.invariant-loop-day
invariant-loop-day l = Clears l.first l.day l.upto (map (λ list. list.items) l.initial.days) (map (λ list. list.items) l.days)
