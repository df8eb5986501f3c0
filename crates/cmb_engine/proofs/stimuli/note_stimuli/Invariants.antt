use Rattle.std.proofs.Common.{◌<◌}
use Rattle.cmb_wheel.specs.Calendars.{SameTicks}
use Rattle.cmb_engine.specs.Inner.Lines.{NotesEach}
use Rattle.cmb_engine.specs.Inner.Starts.{IsOfInput}
use Rattle.cmb_engine.proofs.stimuli.note_stimuli.Given as goal

abbrev pub invariant-loop-net : goal.invariant-loop-net
invariant-loop-net l = record {
  notes : NotesEach (λ event. IsOfInput l.design l.roles event × (event.slot < l.net)) l.initial.calendar l.calendar;
  ticks : SameTicks l.initial.calendar l.calendar;
}
