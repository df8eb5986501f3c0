use Rattle.std.proofs.Common.{◌≡◌, ◌+◌, ◌-◌, ◌<◌, ℕ, get_or, take}
use Rattle.cmb_wheel.specs.declared.event.LevelEvent.{LevelEvent}
use Rattle.cmb_engine.specs.Inner.Bits.{has}
use Rattle.cmb_engine.specs.Inner.Cells.{AreMarked, readers_at}
use Rattle.cmb_engine.specs.Inner.Tells.{told_level}
use Rattle.cmb_engine.specs.Inner.Words.{levels_of, Writes}
use Rattle.cmb_engine.proofs.told.write_told.Given as goal

abbrev pub invariant-loop-event : goal.invariant-loop-event
invariant-loop-event l = record {
  writes : Writes l.initial.words l.words l.initial.live l.live l.initial.marks l.marks;
  words : (slot place : ℕ) → place < 64
      → levels_of l.words slot place ≡ told_level (take l.event-index l.tells) slot (levels_of l.initial.words slot place) (l.to + place - 64);
  news : (k : ℕ) (d : LevelEvent) → k < l.event-index → AreMarked (has l.marks) (readers_at l.fanout.order l.fanout.gates (get_or l.tells k d).slot);
}
