use Rattle.std.proofs.Common.{length, take}
use Rattle.cmb_wheel.specs.Calendars.{SameTicks}
use Rattle.cmb_engine.specs.Inner.Lines.{IsOfLine, NotesEach}
use Rattle.cmb_engine.proofs.lines.note_lines.Given as goal

abbrev pub invariant-loop-one : goal.invariant-loop-one
invariant-loop-one l = record {
  notes : NotesEach (IsOfLine (take l.one-index l.changed) l.lines (length l.followers) l.to l.first) l.initial.calendar l.calendar;
  ticks : SameTicks l.initial.calendar l.calendar;
}
