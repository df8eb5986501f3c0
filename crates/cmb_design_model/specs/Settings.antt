-- The checks of settings, and all checks of a design in their order.
use Rattle.std.specs.Prelude.{ℕ, zero, suc, Bool, false, not, ◌&&◌, ◌||◌, ◌++◌, nat_le, List, [], ◌∷◌, length, map, Option, Some, None}
use Rattle.std.specs.List.{list_any, range_with_len}
use Rattle.cmb_netlist.specs.Netlist.{Netlist, driver_of, number_of}
use Rattle.cmb_design_model.specs.Checks.{Check, check, rows_checks}
use Rattle.cmb_design_model.specs.Design.{Design}
use Rattle.cmb_design_model.specs.Nets.{is_at, is_flop, is_within}
use Rattle.cmb_design_model.specs.Rows.{clock_row_checks, delay_row_checks, initial_row_checks, stimulus_row_checks}
use Rattle.cmb_design_model.specs.declared.fault.DesignFault.TheVariants as fault
use Rattle.cmb_design_model.specs.declared.rows.ClockRow.{ClockRow}
use Rattle.cmb_design_model.specs.declared.rows.Clock.{Clock}

abbrev pub is_bad_clock : Option Clock → Bool
is_bad_clock None = false
is_bad_clock (Some clock) = not (nat_le clock.first 1000000 && is_within 1 1000000 clock.period)

-- a clock row names the net with this number
abbrev pub is_named : Netlist → List ClockRow → ℕ → Bool
is_named netlist rows net = list_any (λ row. is_at (number_of netlist row.net) net) rows

unfoldable pub named_nets : Netlist → List ClockRow → List Bool
named_nets netlist rows = map (is_named netlist rows) (range_with_len 0 (length netlist.names))

-- whether a test passes for a number below another
unfoldable pub any_below : (ℕ → Bool) → ℕ → Bool
any_below test zero = false
any_below test (suc n) = any_below test n || test n

-- a flip-flop's net that no clock row names
abbrev pub is_unclocked : Netlist → List ClockRow → ℕ → Bool
is_unclocked netlist rows net = is_flop (driver_of netlist net) && not (is_named netlist rows net)

-- there is no common clock, and some flip-flop has none of its own
abbrev pub lacks_clock : Netlist → Option Clock → List ClockRow → Bool
lacks_clock netlist None rows = any_below (is_unclocked netlist rows) (length netlist.names)
lacks_clock netlist (Some clock) rows = false

-- of the settings alone: the horizon is 1 to 1,000,000 (20), a common clock's first tick is at most 1,000,000 and its period 1 to 1,000,000 (21)
abbrev pub range_checks : ℕ → Option Clock → List Check
range_checks horizon clock = check fault.Horizon (not (is_within 1 1000000 horizon)) ∷ check fault.Clock (is_bad_clock clock) ∷ []

-- of the settings: those, and without a common clock each flip-flop's net is named by a clock row (22)
unfoldable pub setting_checks : Netlist → ℕ → Option Clock → List ClockRow → List Check
setting_checks netlist horizon clock rows = range_checks horizon clock ++ check fault.NoClock (lacks_clock netlist clock rows) ∷ []

-- all checks of a design in their order: those of the settings, of the delay rows, of the stimulus rows, of the clock rows, of the rows of first levels
abbrev pub design_checks : Design → List Check
design_checks design =
    setting_checks design.netlist design.horizon design.clock design.clocks
    ++ (rows_checks (delay_row_checks design.netlist) design.delays
    ++ (rows_checks (stimulus_row_checks design.netlist) design.stimuli
    ++ (rows_checks (clock_row_checks design.netlist) design.clocks
    ++ rows_checks (initial_row_checks design.netlist) design.initial)))
