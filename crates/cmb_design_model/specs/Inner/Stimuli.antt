-- The levels of rows by net and tick, and the changes that they make.
use Rattle.std.specs.Prelude.{◌≡◌, ℕ, List, map, length, Some, None, slice_get}
use Rattle.std.specs.List.{range_with_len}
use Rattle.cmb_wave.specs.declared.level.Change.{Change}
use Rattle.cmb_wave.specs.Waveform.{changes_between}
use Rattle.cmb_netlist.specs.Netlist.{Netlist}
use Rattle.cmb_design_model.specs.declared.rows.StimulusRow.{StimulusRow}
use Rattle.cmb_design_model.specs.Timing.{level_by, row_level}
use Rattle.cmb_design_model.specs.declared.row_levels.RowLevels.{RowLevels}
use Rattle.cmb_design_model.specs.Inner.RowLevels.{IsTold, told_at}

-- where the levels of a net are a list, its ticks rise
abbrev pub AllTold : List RowLevels → Type 0
AllTold table = (net : ℕ) (levels : RowLevels) → slice_get table net ≡ Some levels → IsTold levels

-- each net has the levels of its rows by their ticks
pub record AreStimuli (netlist : Netlist) (rows : List StimulusRow) (table : List RowLevels) : Type 0 where
  pub nets : length table ≡ length netlist.names
  pub told : AllTold table
  pub levels : (net : ℕ) (levels : RowLevels) → slice_get table net ≡ Some levels → (tick : ℕ) → told_at levels tick ≡ row_level netlist rows net tick

abbrev pub AllEmpty : List RowLevels → Type 0
AllEmpty table = (net : ℕ) (levels : RowLevels) → slice_get table net ≡ Some levels → IsTold levels × ((tick : ℕ) → told_at levels tick ≡ None)

unfoldable pub stimulus_changes : Netlist → List StimulusRow → ℕ → List (List Change)
stimulus_changes netlist rows horizon = map (λ net. changes_between (level_by (row_level netlist rows net)) 0 horizon) (range_with_len 0 (length netlist.names))
