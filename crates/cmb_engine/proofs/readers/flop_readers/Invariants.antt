use Rattle.std.proofs.Common.{◌≡◌, ◌<◌, ℕ, true, length, map}
use Rattle.cmb_engine.specs.Inner.Cells.{AreBelow, IsListed, cell_at, is_flop, reads}
use Rattle.cmb_engine.proofs.readers.flop_readers.Given as goal

abbrev pub invariant-loop-net : goal.invariant-loop-net
invariant-loop-net l = record {
  len : length l.lists.items ≡ length l.cells;
  within : AreBelow (length l.cells) (map (λ list. list.items) l.lists.items);
  listed : (m place : ℕ) → m < l.net → is_flop (cell_at l.cells m) ≡ true → reads (cell_at l.cells m) place ≡ true
      → IsListed (map (λ list. list.items) l.lists.items) place m;
}
