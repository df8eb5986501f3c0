use Rattle.std.proofs.Common.{map}
use Rattle.std.specs.Prelude.{◌↔◌, Contains}
use Rattle.cmb_wheel.specs.Inner.Days.{IsEarly}
use Rattle.cmb_wheel.specs.declared.event.LevelEvent.{LevelEvent}
use Rattle.cmb_wheel.proofs.days.collect_early.Given as goal

abbrev pub invariant-loop-day : goal.invariant-loop-day
invariant-loop-day l = (event : LevelEvent) → Contains l.taken.items event ↔ IsEarly (map (λ list. list.items) l.days) l.first l.day l.upto event
