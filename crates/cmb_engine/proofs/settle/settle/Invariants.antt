use Rattle.std.proofs.Common.{◌≡◌, ◌≤◌, ℕ, length}
use Rattle.cmb_wave.specs.declared.level.Level.{Level}
use Rattle.cmb_engine.specs.Inner.Orders.{is_marked}
use Rattle.cmb_engine.specs.Inner.Cells.{IsReady, IsTrueBelow, AreSettled, cell_at}
use Rattle.cmb_engine.specs.Inner.Sweeps.{Sweeps}
use Rattle.cmb_engine.specs.Inner.Words.{levels_of}
use Rattle.cmb_engine.proofs.settle.settle.Given as goal

abbrev pub invariant-loop : goal.invariant-loop
invariant-loop l = record {
  len : length l.words ≡ length l.initial.words;
  from : l.first ≤ l.counter;
  sweeps : Sweeps (cell_at l.wiring.cells) l.wiring.fanout.order l.to l.first (levels_of l.initial.words) (levels_of l.words) l.initial.marks l.marks l.initial.live l.live;
  truer : (truth : ℕ → ℕ → Level) → IsReady (levels_of l.initial.words) truth (cell_at l.wiring.cells) l.to l.first
      → AreSettled (levels_of l.initial.words) (is_marked l.wiring.fanout.order l.initial.marks) (cell_at l.wiring.cells) l.to l.first
      → IsTrueBelow (levels_of l.initial.words) truth (cell_at l.wiring.cells) l.first
      → IsTrueBelow (levels_of l.words) truth (cell_at l.wiring.cells) l.counter;
}
