-- Delays, stimuli, sample ticks and first levels, from the rows.
use Rattle.std.specs.Prelude.{◌≡◌, ℕ, zero, suc, ◌+◌, ◌-◌, ◌*◌, ◌/◌, max, Bool, false, ◌&&◌, ◌==◌, nat_lt, List, Option, Some, None, unwrap_or, option_map, find, if◌then◌else◌}
use Rattle.std.specs.Prelude.{[], ◌++◌, map}
use Rattle.std.specs.List.{range_with_len}
use Rattle.std.specs.Option.{option_or}
use Rattle.cmb_wave.specs.declared.level.Level.{Level}
use Rattle.cmb_wave.specs.declared.level.Level.TheVariants.{X}
use Rattle.cmb_netlist.specs.Netlist.{Netlist, driver_of, number_of}
use Rattle.cmb_design_model.specs.Nets.{cell_number, driver_cell, is_at, pins_at}
use Rattle.cmb_design_model.specs.Design.{Design}
use Rattle.cmb_design_model.specs.declared.rows.Delayed.{Delayed}
use Rattle.cmb_design_model.specs.declared.rows.Delayed.TheVariants.{Pin, Net, Kind as ByKind}
use Rattle.cmb_design_model.specs.declared.rows.DelayRow.{DelayRow}
use Rattle.cmb_design_model.specs.declared.rows.StimulusRow.{StimulusRow}
use Rattle.cmb_design_model.specs.declared.rows.Clock.{Clock}
use Rattle.cmb_design_model.specs.declared.rows.ClockRow.{ClockRow}
use Rattle.cmb_design_model.specs.declared.rows.InitialRow.{InitialRow}

-- ---- delays

-- the row is about this pin of this net
abbrev pub is_of_pin : Netlist → ℕ → ℕ → Delayed → Bool
is_of_pin netlist net pin (Pin name place) = is_at (number_of netlist name) net && place == pin
is_of_pin netlist net pin (Net name) = false
is_of_pin netlist net pin (ByKind cell) = false

-- the row is about this net
abbrev pub is_of_net : Netlist → ℕ → Delayed → Bool
is_of_net netlist net (Pin name place) = false
is_of_net netlist net (Net name) = is_at (number_of netlist name) net
is_of_net netlist net (ByKind cell) = false

-- the row is about the kind with this number
abbrev pub is_of_kind : Option ℕ → Delayed → Bool
is_of_kind kind (Pin name place) = false
is_of_kind kind (Net name) = false
is_of_kind kind (ByKind cell) = is_at kind (cell_number cell)

abbrev pub delay_in : (Delayed → Bool) → List DelayRow → Option ℕ
delay_in is_of rows = option_map (λ row. row.delay) (find (λ row. is_of row.what) rows)

-- the delay from a pin of a net's driver to the net: the pin's row, else the net's, else the kind's, else 1. Never below 1
unfoldable pub delay_by : Netlist → List DelayRow → ℕ → ℕ → ℕ
delay_by netlist rows net pin =
    let of_pin = delay_in (is_of_pin netlist net pin) rows in
    let of_net = delay_in (is_of_net netlist net) rows in
    let of_kind = delay_in (is_of_kind (driver_cell (driver_of netlist net))) rows in
    max (unwrap_or (option_or of_pin (option_or of_net of_kind)) 1) 1

abbrev pub delay : Design → ℕ → ℕ → ℕ
delay design net pin = delay_by design.netlist design.delays net pin

-- the delays of a net's pins, and those of all pins of so many nets, in order
unfoldable pub net_delays : Netlist → List DelayRow → ℕ → List ℕ
net_delays netlist rows net = map (λ k. delay_by netlist rows net (k + 1)) (range_with_len 0 (pins_at netlist net))

unfoldable pub flat_delays : Netlist → List DelayRow → ℕ → List ℕ
flat_delays netlist rows zero = []
flat_delays netlist rows (suc net) = flat_delays netlist rows net ++ net_delays netlist rows net

-- ---- stimuli

-- the level at a tick: that of the last row at or before it, and x where there is none
unfoldable pub level_by : (ℕ → Option Level) → ℕ → Level
level_by row_at zero = unwrap_or (row_at zero) X
level_by row_at (suc tick) = unwrap_or (row_at (suc tick)) (level_by row_at tick)

-- the level of a net's row at just this tick
unfoldable pub row_level : Netlist → List StimulusRow → ℕ → ℕ → Option Level
row_level netlist rows net tick = option_map (λ row. row.level) (find (λ row. is_at (number_of netlist row.net) net && row.tick == tick) rows)

abbrev pub stimulus : Design → ℕ → ℕ → Level
stimulus design net tick = level_by (row_level design.netlist design.stimuli net) tick

-- ---- sample ticks

abbrev pub common_clock : Option Clock → Clock
common_clock None = record { first = 0; period = 1 }
common_clock (Some clock) = record { first = clock.first; period = max clock.period 1 }

abbrev pub clock_of_row : ClockRow → Clock
clock_of_row row = record { first = row.first; period = max row.period 1 }

-- a flip-flop's clock: its row, else the common clock
unfoldable pub clock_of : Design → ℕ → Clock
clock_of design net =
    unwrap_or (option_map clock_of_row (find (λ row. is_at (number_of design.netlist row.net) net) design.clocks)) (common_clock design.clock)

abbrev pub IsSample : Clock → ℕ → Type 0
IsSample clock tick = (k : ℕ) × (tick ≡ clock.first + k * clock.period)

-- of the ticks with a first one and a period: the greatest that is at most this tick, where there is one, and the least that is at least it
abbrev pub sample_upto : ℕ → ℕ → ℕ → ℕ
sample_upto first period tick = first + (tick - first) / period * period

abbrev pub sample_from : ℕ → ℕ → ℕ → ℕ
sample_from first period tick = first + (tick - first + (period - 1)) / period * period

-- the greatest sample tick that is at most this tick
unfoldable pub last_sample : Clock → ℕ → Option ℕ
last_sample clock tick = if nat_lt tick clock.first then None else Some (sample_upto clock.first clock.period tick)

-- the least sample tick that is at least this tick
unfoldable pub next_sample : Clock → ℕ → ℕ
next_sample clock tick = sample_from clock.first clock.period tick

-- ---- first levels

abbrev pub level_of_row : InitialRow → Level
level_of_row row = row.level

-- what a flip-flop shows until its first sample does: its row's level, else the common one
unfoldable pub initial_level : Design → ℕ → Level
initial_level design net =
    unwrap_or (option_map level_of_row (find (λ row. is_at (number_of design.netlist row.net) net) design.initial)) design.init
