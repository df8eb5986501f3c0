use Rattle.std.proofs.Common.{◌<◌, ◌≤◌}
use Rattle.std.specs.Prelude.{All}
use Rattle.cmb_wheel.specs.Calendars.{SameTicks}
use Rattle.cmb_engine.proofs.LineFacts.{IsOfPlaces}
use Rattle.cmb_engine.specs.Inner.Lines.{NotesEach}
use Rattle.cmb_engine.proofs.lines.note_changes.Given as goal

abbrev pub invariant-loop-place : goal.invariant-loop-place
invariant-loop-place l = record {
  within : All (λ place. (l.first ≤ place) × (place < 64)) l.place-iterator;
  notes : NotesEach (IsOfPlaces l.word l.slot l.delay l.to l.yielded) l.initial.calendar l.calendar;
  ticks : SameTicks l.initial.calendar l.calendar;
}
