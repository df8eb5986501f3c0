-- Tables with a place for each thing that a row may be about.
use Rattle.std.specs.Prelude.{ℕ, zero, suc, ◌+◌, ◌-◌, Bool, List, map, length, find, Option, Some, None, is_some, option_map, option_and_then, if◌then◌else◌}
use Rattle.std.specs.List.{list_all, range_with_len}
use Rattle.cmb_wave.specs.declared.level.Level.{Level}
use Rattle.cmb_netlist.specs.Netlist.{Netlist, number_of}
use Rattle.cmb_design_model.specs.Nets.{cell_number, is_at, is_within, pins_at}
use Rattle.cmb_design_model.specs.declared.rows.Delayed.{Delayed}
use Rattle.cmb_design_model.specs.declared.rows.Delayed.TheVariants.{Pin, Net, Kind as ByKind}
use Rattle.cmb_design_model.specs.declared.rows.DelayRow.{DelayRow}
use Rattle.cmb_design_model.specs.declared.rows.ClockRow.{ClockRow}
use Rattle.cmb_design_model.specs.declared.rows.InitialRow.{InitialRow}
use Rattle.cmb_design_model.specs.declared.rows.Clock.{Clock}
use Rattle.cmb_design_model.specs.Timing.{clock_of_row, level_of_row}

-- what the first row with a place gives
unfoldable pub place_at : {X V : Type 0} → (X → Option ℕ) → (X → V) → List X → ℕ → Option V
place_at place value rows k = option_map value (find (λ row. is_at (place row) k) rows)

-- so many places
unfoldable pub places : {X V : Type 0} → (X → Option ℕ) → (X → V) → ℕ → List X → List (Option V)
unfolding place_at
places place value count rows = map (place_at place value rows) (range_with_len 0 count)

-- clock rows: a place for each net
abbrev pub clock_place : Netlist → ClockRow → Option ℕ
clock_place netlist row = number_of netlist row.net

abbrev pub clock_places : Netlist → List ClockRow → List (Option Clock)
clock_places netlist rows = places (clock_place netlist) clock_of_row (length netlist.names) rows

-- rows of first levels: a place for each net
abbrev pub initial_place : Netlist → InitialRow → Option ℕ
initial_place netlist row = number_of netlist row.net

abbrev pub initial_places : Netlist → List InitialRow → List (Option Level)
initial_places netlist rows = places (initial_place netlist) level_of_row (length netlist.names) rows

-- delay rows: a place for each kind, then for each net, then for each pin of each net
unfoldable pub start : Netlist → ℕ → ℕ
start netlist zero = 0
start netlist (suc net) = start netlist net + pins_at netlist net

abbrev pub starts_of : Netlist → List ℕ
starts_of netlist = map (start netlist) (range_with_len 0 (length netlist.names))

abbrev pub table_size : Netlist → ℕ
table_size netlist = 9 + length netlist.names + start netlist (length netlist.names)

abbrev pub pin_place : Netlist → ℕ → ℕ → Option ℕ
pin_place netlist net pin =
    if is_within 1 (pins_at netlist net) pin then Some (9 + length netlist.names + start netlist net + (pin - 1)) else None

abbrev pub delay_place : Netlist → Delayed → Option ℕ
delay_place netlist (ByKind cell) = Some (cell_number cell)
delay_place netlist (Net name) = option_map (λ net. 9 + net) (number_of netlist name)
delay_place netlist (Pin name pin) = option_and_then (λ net. pin_place netlist net pin) (number_of netlist name)

abbrev pub row_place : Netlist → DelayRow → Option ℕ
row_place netlist row = delay_place netlist row.what

abbrev pub delay_places : Netlist → List DelayRow → List (Option ℕ)
delay_places netlist rows = places (row_place netlist) (λ row. row.delay) (table_size netlist) rows

abbrev pub all_placed : Netlist → List DelayRow → Bool
all_placed netlist rows = list_all (λ row. is_some (row_place netlist row)) rows
