use Rattle.std.proofs.Common.{◌≡◌, ℕ, true, take}
use Rattle.cmb_engine.specs.Inner.Bits.{has}
use Rattle.cmb_engine.specs.Inner.Cells.{AreMarked, readers_at}
use Rattle.cmb_engine.specs.Inner.Gifts.{is_written, AreWritten}
use Rattle.cmb_engine.specs.Inner.Words.{levels_of, Writes}
use Rattle.cmb_engine.proofs.given.write_given.Given as goal

abbrev pub invariant-loop-one : goal.invariant-loop-one
invariant-loop-one l = record {
  writes : Writes l.initial.words l.words l.initial.live l.live l.initial.marks l.marks;
  written : AreWritten l.roles (take l.one-index l.given) (levels_of l.initial.words) (levels_of l.words) l.first;
  news : (slot : ℕ) → is_written l.roles (take l.one-index l.given) slot ≡ true → AreMarked (has l.marks) (readers_at l.fanout.order l.fanout.gates slot);
}
