use Rattle.std.proofs.Common.{◌≡◌, ◌*◌, ◌-◌, ℕ, length}
use Rattle.cmb_wave.specs.declared.level.Level.{Level}
use Rattle.cmb_engine.specs.Inner.Arrivals.{IsArrival}
use Rattle.cmb_engine.specs.Inner.Cells.{cell_at}
use Rattle.cmb_engine.specs.Inner.Orders.{is_marked}
use Rattle.cmb_engine.specs.Inner.Sweeps.{Sweeps}
use Rattle.cmb_engine.specs.Inner.Walks.{walked}
use Rattle.cmb_engine.specs.Inner.Words.{levels_of}
use Rattle.cmb_engine.proofs.SweepFacts.{IsFurther, IsBegun}
use Rattle.cmb_engine.proofs.settle.sweep.Given as goal

abbrev pub invariant-batches : goal.invariant-batches
invariant-batches l = record {
  len : length l.words ≡ length l.initial.words;
  last : IsArrival l.last l.to l.first;
  sweeps : Sweeps (cell_at l.wiring.cells) l.wiring.fanout.order l.to l.first (levels_of l.initial.words) (levels_of l.words) l.initial.marks l.marks l.initial.live l.live;
  truer : (truth : ℕ → ℕ → Level) (upto : ℕ)
      → IsBegun (levels_of l.initial.words) truth (is_marked l.wiring.fanout.order l.initial.marks) (cell_at l.wiring.cells) l.to l.first upto
      → IsFurther (levels_of l.words) truth (cell_at l.wiring.cells) l.wiring.fanout.order upto (walked l.walk);
}

abbrev pub decreases-batches : goal.decreases-batches
decreases-batches l = 64 * length l.initial.marks - (walked l.walk)
