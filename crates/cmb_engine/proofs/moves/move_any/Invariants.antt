use Rattle.std.proofs.Common.{◌≡◌, ℕ, true, length}
use Rattle.cmb_engine.specs.Inner.Bits.{has}
use Rattle.cmb_engine.specs.Inner.Cells.{readers_at}
use Rattle.cmb_engine.specs.Inner.Words.{levels_of}
use Rattle.cmb_engine.proofs.MoveFacts.{IsMovingOn}
use Rattle.cmb_engine.proofs.moves.move_any.Given as goal

abbrev pub invariant-loop-place : goal.invariant-loop-place
invariant-loop-place l = record {
  len : length l.words ≡ length l.initial.words;
  room : length l.marks ≡ length l.initial.marks;
  kept : (m : ℕ) → has l.initial.marks m ≡ true → has l.marks m ≡ true;
  moving : IsMovingOn (readers_at l.fanout.order l.fanout.gates) l.batch.base l.batch.places l.steady (length l.initial.words) l.ticks l.first l.place-iterator l.marks (levels_of l.initial.words) (levels_of l.words);
}
