use Rattle.std.proofs.Common.{◌≡◌, ℕ, true, length}
use Rattle.cmb_engine.specs.Inner.Bits.{has}
use Rattle.cmb_engine.specs.Inner.Cells.{readers_at}
use Rattle.cmb_engine.specs.Inner.Known.{known_levels}
use Rattle.cmb_engine.proofs.MoveFacts.{IsMovingOn}
use Rattle.cmb_engine.proofs.known_passes.move_known.Given as goal

abbrev pub invariant-loop-place : goal.invariant-loop-place
invariant-loop-place l = record {
  len : length l.ones ≡ length l.initial.ones;
  room : length l.marks ≡ length l.initial.marks;
  kept : (m : ℕ) → has l.initial.marks m ≡ true → has l.marks m ≡ true;
  moving : IsMovingOn (readers_at l.fanout.order l.fanout.gates) l.batch.base l.places l.steady (length l.initial.ones) l.ticks l.first l.place-iterator l.marks (known_levels l.initial.ones) (known_levels l.ones);
}
