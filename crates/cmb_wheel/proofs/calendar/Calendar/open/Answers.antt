use Rattle.std.proofs.Common.{◌+◌, ◌/◌, List, ap, ◌∙◌}
use Rattle.cmb_wheel.specs.Inner.Days.{tells_of}
use Rattle.cmb_wheel.specs.declared.event.LevelEvent.{LevelEvent}
use Rattle.cmb_wheel.proofs.DayFacts.{tells-none}
use Rattle.cmb_wheel.proofs.calendar.Calendar.open.Goals as goal

pub returns-clause-tells : goal.returns-clause-tells
returns-clause-tells c = ap (λ (lists : List (List LevelEvent)). tells_of lists) c.in_ok-days.ensures ∙ tells-none (c.args.horizon / 64 + 1)
