use Rattle.std.proofs.Common.{◌≡◌, ◌++◌, take}
use Rattle.cmb_wheel.specs.Inner.Days.{early_of}
use Rattle.cmb_wheel.proofs.days.push_early.Given as goal

abbrev pub invariant-loop-event : goal.invariant-loop-event
invariant-loop-event l = l.taken.items ≡ l.initial.taken.items ++ early_of l.upto (take l.event-index l.list)
