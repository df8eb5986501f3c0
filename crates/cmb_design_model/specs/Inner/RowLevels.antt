-- The levels that rows give to one net, by their ticks, and the changes that they make.
use Rattle.std.specs.Prelude.{◌≢◌, ℕ, ◌+◌, ◌≤◌, ◌<◌, ◌==◌, List, [], ◌∷◌, Option, None, Some, map, if◌then◌else◌}
use Rattle.std.specs.List.{AllByRecursion}
use Rattle.std.specs.Ordering.{nat_cmp}
use Rattle.std.specs.BTreeMap.{get}
use Rattle.cmb_wave.specs.declared.level.Level.{Level}
use Rattle.cmb_wave.specs.declared.level.Level.TheVariants.{X}
use Rattle.cmb_wave.specs.declared.level.Change.{Change}
use Rattle.cmb_design_model.specs.declared.row_levels.RowLevels.{RowLevels}
use Rattle.cmb_design_model.specs.declared.row_levels.RowLevels.TheVariants.{Changes, Rows}

-- a tick, and the level from it on
abbrev pub Row : Type 0
Row = ℕ × Level

-- the rows that say just these changes
abbrev pub rows_of : List Change → List Row
rows_of changes = map (λ change. (change.tick, change.level)) changes

-- the ticks rise strictly, from this one on
abbrev pub Rises : ℕ → List Row → Type 0
Rises low [] = Unit {0}
Rises low (p ∷ ps) = (low ≤ p.0) × Rises (p.0 + 1) ps

-- all ticks are below this one
abbrev pub Below : ℕ → List Row → Type 0
Below tick rows = AllByRecursion (λ row. row.0 < tick) rows

-- each level is another one than the one before, which is this one for the first
abbrev pub Differs : Level → List Row → Type 0
Differs before [] = Unit {0}
Differs before (p ∷ ps) = (p.1 ≢ before) × Differs p.1 ps

-- the level behind all rows, where this is the one before them
abbrev pub level_after : Level → List Row → Level
level_after before [] = before
level_after before (p ∷ ps) = level_after p.1 ps

-- the level of the row at a tick
unfoldable pub row_in : List Row → ℕ → Option Level
row_in [] t = None
row_in (p ∷ ps) t = if p.0 == t then Some p.1 else row_in ps t

-- rows each of which makes a change, at a tick that a `u32` counts
pub record AreChanges (rows : List Row) : Type 0 where
  pub rises : Rises 0 rows
  pub below : Below 4294967296 rows
  pub differs : Differs X rows

-- what a net's rows tell at a tick
abbrev pub told_at : RowLevels → ℕ → Option Level
told_at (Changes list) t = row_in (rows_of list.items) t
told_at (Rows map) t = get nat_cmp map t

-- a list holds changes
abbrev pub IsTold : RowLevels → Type 0
IsTold (Changes list) = AreChanges (rows_of list.items)
IsTold (Rows map) = Unit {0}

-- the list of changes, once all rows are told
abbrev pub changes_in : RowLevels → List Change
changes_in (Changes list) = list.items
changes_in (Rows map) = []
