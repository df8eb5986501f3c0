-- What the table of levels holds while it is filled.
use Rattle.std.specs.Prelude.{◌≡◌, ℕ, ◌+◌, ◌*◌, ◌/◌, ◌%◌, ◌<◌, map, Some, slice_get}
use Rattle.std.specs.List.{range_with_len}
use Rattle.cmb_wave.specs.declared.level.Level.{Level}
use Rattle.cmb_design_model.specs.Design.{Design}
use Rattle.cmb_design_model.specs.Exact.{nets_of}
use Rattle.cmb_design_model.specs.Value.{value}
use Rattle.cmb_design_model.specs.declared.plain_table.Table.{Table}

-- cells stand tick by tick, and those of a tick net by net
abbrev pub cell_level : Design → ℕ → Level
cell_level design cell = value design (cell % nets_of design) (cell / nets_of design)

-- the table holds the levels of so many cells
pub record HoldsCells (design : Design) (table : Table) (cells : ℕ) : Type 0 where
  pub nets : table.nets ≡ nets_of design
  pub levels : table.levels.items ≡ map (cell_level design) (range_with_len 0 cells)

-- the table holds the levels of all nets at so many ticks, and maybe more
pub record HoldsTicks (design : Design) (table : Table) (ticks : ℕ) : Type 0 where
  pub nets : table.nets ≡ nets_of design
  pub levels : (net tick : ℕ) → net < nets_of design → tick < ticks → slice_get table.levels.items (tick * nets_of design + net) ≡ Some (value design net tick)
