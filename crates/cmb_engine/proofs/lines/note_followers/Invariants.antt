use Rattle.std.proofs.Common.{take}
use Rattle.cmb_wheel.specs.Calendars.{SameTicks}
use Rattle.cmb_engine.specs.Inner.Lines.{IsOfFollower, NotesEach}
use Rattle.cmb_engine.proofs.lines.note_followers.Given as goal

abbrev pub invariant-loop-number : goal.invariant-loop-number
invariant-loop-number l = record {
  notes : NotesEach (IsOfFollower l.word (take l.number-index l.followers) l.lines l.nets l.to l.first) l.initial.calendar l.calendar;
  ticks : SameTicks l.initial.calendar l.calendar;
}
