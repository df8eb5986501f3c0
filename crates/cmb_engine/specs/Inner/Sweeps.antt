-- What visits of marked slots leave.
use Rattle.std.specs.Prelude.{◌≡◌, ◌*◌, ℕ, ◌<◌, ◌≤◌, Bool, true, false, List, length}
use Rattle.cmb_wave.specs.declared.level.Level.{Level}
use Rattle.cmb_engine.specs.Inner.Bits.{has}
use Rattle.cmb_engine.specs.Inner.Cells.{Cell, Nodes, AreClosed, AreSettled, IsWired, KeepsTold, cell_at}
use Rattle.cmb_engine.specs.Inner.Orders.{Order, is_marked}
use Rattle.cmb_engine.specs.Inner.Windows.{HasWindow}

-- what a sweep over the marked slots asks for: cells that are wired, a window, which is open where samples may be taken in it that
-- show in it, and a place for each slot among the marks and the live ones
pub record CanSweep (cells : List Cell) (order : Order) (nodes : Nodes) (gates flops : List (List ℕ)) (open_window : Bool) (nets : ℕ) (marks' live' : List ℕ) (to first : ℕ) : Type 0 where
  pub wired : IsWired cells order nodes gates flops nets first
  pub closed : open_window ≡ false → AreClosed (cell_at cells) to first
  pub room : length order.slots ≤ 64 * length marks'
  pub live : nets ≤ 64 * length live'
  pub window : HasWindow to first

-- told words stay, a slot that isn't live has the word that it had, and slots that aren't marked are settled where those were;
-- live slots stay live, and there is as much room for marks as before
pub record Sweeps (cells : ℕ → Cell) (order : Order) (to first : ℕ) (old new : ℕ → ℕ → Level) (old_marks new_marks old_live new_live : List ℕ) : Type 0 where
  pub room : length new_marks ≡ length old_marks
  pub live_room : length new_live ≡ length old_live
  pub told : KeepsTold old new cells
  pub kept : (m : ℕ) → has old_live m ≡ true → has new_live m ≡ true
  pub same : (m place : ℕ) → place < 64 → has new_live m ≡ false → new m place ≡ old m place
  pub settled : AreSettled old (is_marked order old_marks) cells to first → AreSettled new (is_marked order new_marks) cells to first
