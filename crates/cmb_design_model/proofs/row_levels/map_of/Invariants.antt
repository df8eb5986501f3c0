use Rattle.std.proofs.Common.{◌≡◌, ℕ, take}
use Rattle.std.specs.Ordering.{nat_cmp}
use Rattle.std.specs.BTreeMap.{get}
use Rattle.cmb_design_model.specs.Inner.RowLevels.{row_in, rows_of}
use Rattle.cmb_design_model.proofs.row_levels.map_of.Given as goal

abbrev pub invariant-loop-i : goal.invariant-loop-i
invariant-loop-i l = (t : ℕ) → get nat_cmp l.map t ≡ row_in (rows_of (take l.i l.changes)) t
