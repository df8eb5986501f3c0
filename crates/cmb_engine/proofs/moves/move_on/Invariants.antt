use Rattle.std.proofs.Common.{◌≡◌, ◌-◌, ◌*◌, ℕ, true, length}
use Rattle.cmb_engine.specs.Inner.Bits.{has}
use Rattle.cmb_engine.specs.Inner.Cells.{readers_at}
use Rattle.cmb_engine.specs.Inner.Circuits.{AreQuiet}
use Rattle.cmb_engine.specs.Inner.Words.{levels_of}
use Rattle.cmb_engine.proofs.MoveFacts.{AreMoved, AreTold}
use Rattle.cmb_engine.proofs.moves.move_on.Given as goal

abbrev pub invariant-words : goal.invariant-words
invariant-words l = record {
  len : length l.words ≡ length l.initial.words;
  live : length l.live ≡ length l.initial.live;
  room : length l.marks ≡ length l.initial.marks;
  kept : (m : ℕ) → has l.initial.marks m ≡ true → has l.marks m ≡ true;
  moved : AreMoved (levels_of l.initial.words) (levels_of l.words) (length l.initial.words) l.ticks (64 * l.from);
  quiet : AreQuiet (levels_of l.words) (has l.live) (length l.initial.words);
  told : AreTold (readers_at l.fanout.order l.fanout.gates) (levels_of l.words) (length l.initial.words) l.live l.marks l.first (64 * l.from);
}

abbrev pub decreases-words : goal.decreases-words
decreases-words l = length l.initial.live - l.from
