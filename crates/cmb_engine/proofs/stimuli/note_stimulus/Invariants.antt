use Rattle.std.proofs.Common.{take}
use Rattle.cmb_wheel.specs.Calendars.{SameTicks}
use Rattle.cmb_engine.specs.Inner.Lines.{NotesEach}
use Rattle.cmb_engine.proofs.StimulusFacts.{IsOfChanges}
use Rattle.cmb_engine.proofs.stimuli.note_stimulus.Given as goal

abbrev pub invariant-loop-change : goal.invariant-loop-change
invariant-loop-change l = record {
  notes : NotesEach (IsOfChanges (take l.change-index l.change-items) l.net) l.initial.calendar l.calendar;
  ticks : SameTicks l.initial.calendar l.calendar;
}
