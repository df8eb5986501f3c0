use Rattle.std.proofs.Common.{◌<◌}
use Rattle.cmb_wheel.specs.Calendars.{SameTicks}
use Rattle.cmb_engine.specs.Inner.Lines.{NotesEach}
use Rattle.cmb_engine.specs.Inner.Starts.{IsOfStart}
use Rattle.cmb_engine.specs.Inner.Words.{levels_of}
use Rattle.cmb_engine.proofs.stimuli.note_starts.Given as goal

abbrev pub invariant-loop-number : goal.invariant-loop-number
invariant-loop-number l = record {
  notes : NotesEach (λ event. (start : IsOfStart (levels_of l.words) l.lines l.nets event) × (start.number < l.number)) l.initial.calendar l.calendar;
  ticks : SameTicks l.initial.calendar l.calendar;
}
