-- The checks of rows against the netlist and the rows before them.
use Rattle.std.specs.Prelude.{ℕ, Bool, false, not, ◌&&◌, ◌==◌, ◌++◌, List, [], ◌∷◌, length, is_none, nat_le, bytes_eq}
use Rattle.std.specs.List.{list_any}
use Rattle.cmb_netlist.specs.Netlist.{Netlist, number_of, pins_of}
use Rattle.cmb_design_model.specs.Checks.{Check, check}
use Rattle.cmb_design_model.specs.Nets.{cell_number, driver_named, is_flop, is_input, is_within}
use Rattle.cmb_design_model.specs.declared.fault.DesignFault.TheVariants as fault
use Rattle.cmb_design_model.specs.declared.rows.Delayed.{Delayed}
use Rattle.cmb_design_model.specs.declared.rows.Delayed.TheVariants.{Pin, Net, Kind as ByKind}
use Rattle.cmb_design_model.specs.declared.rows.DelayRow.{DelayRow}
use Rattle.cmb_design_model.specs.declared.rows.StimulusRow.{StimulusRow}
use Rattle.cmb_design_model.specs.declared.rows.ClockRow.{ClockRow}
use Rattle.cmb_design_model.specs.declared.rows.InitialRow.{InitialRow}

-- two delay rows are about the same
abbrev pub same_delayed : Delayed → Delayed → Bool
same_delayed (Pin name pin) (Pin other place) = bytes_eq name other && pin == place
same_delayed (Pin name pin) (Net other) = false
same_delayed (Pin name pin) (ByKind other) = false
same_delayed (Net name) (Pin other place) = false
same_delayed (Net name) (Net other) = bytes_eq name other
same_delayed (Net name) (ByKind other) = false
same_delayed (ByKind cell) (Pin other place) = false
same_delayed (ByKind cell) (Net other) = false
same_delayed (ByKind cell) (ByKind other) = cell_number cell == cell_number other

-- a delay row is about a net that is an input
abbrev pub is_about_input : Netlist → Delayed → Bool
is_about_input netlist (Pin name pin) = driver_named netlist is_input name
is_about_input netlist (Net name) = driver_named netlist is_input name
is_about_input netlist (ByKind cell) = false

-- pins count from 1 in the order of operands
abbrev pub has_pin : Netlist → List ℕ → ℕ → Bool
has_pin netlist name pin = driver_named netlist (λ driver. is_within 1 (length (pins_of driver)) pin) name

-- of what a delay row is about: the netlist has the net (26), no earlier row is about the same (29), the net isn't an input (32), and it
-- has the pin (35)
unfoldable pub delayed_checks : Netlist → ℕ → Bool → Delayed → List Check
delayed_checks netlist n repeated (ByKind cell) = check (fault.RepeatedRow n) repeated ∷ []
delayed_checks netlist n repeated (Net name) =
    check (fault.UnknownNet n) (is_none (number_of netlist name)) ∷ check (fault.RepeatedRow n) repeated ∷ check (fault.DelayOfInput n) (driver_named netlist is_input name) ∷ []
delayed_checks netlist n repeated (Pin name pin) =
    check (fault.UnknownNet n) (is_none (number_of netlist name)) ∷ check (fault.RepeatedRow n) repeated ∷ check (fault.DelayOfInput n) (driver_named netlist is_input name)
    ∷ check (fault.NoPin n) (not (has_pin netlist name pin)) ∷ []

unfoldable pub delay_row_checks : Netlist → ℕ → List DelayRow → DelayRow → List Check
unfolding delayed_checks
delay_row_checks netlist n earlier row = delayed_checks netlist n (list_any (λ other. same_delayed other.what row.what) earlier) row.what

-- of a row that tells a level by net and tick: the netlist has the net (26), and no earlier row has its tick and net (29)
abbrev pub told_row_checks : Netlist → ℕ → List StimulusRow → StimulusRow → List Check
told_row_checks netlist n earlier row =
    check (fault.UnknownNet n) (is_none (number_of netlist row.net)) ∷ check (fault.RepeatedRow n) (list_any (λ other. bytes_eq other.net row.net && other.tick == row.tick) earlier) ∷ []

-- of a stimulus row: those, and the net is an input (30)
unfoldable pub stimulus_row_checks : Netlist → ℕ → List StimulusRow → StimulusRow → List Check
stimulus_row_checks netlist n earlier row = told_row_checks netlist n earlier row ++ check (fault.NotInput n) (not (driver_named netlist is_input row.net)) ∷ []

-- of a row that expects a level of a run up to a horizon: those, and the tick is below it (39)
unfoldable pub expected_row_checks : Netlist → ℕ → ℕ → List StimulusRow → StimulusRow → List Check
expected_row_checks netlist horizon n earlier row = told_row_checks netlist n earlier row ++ check (fault.BeyondHorizon n) (nat_le horizon row.tick) ∷ []

-- of a clock row: the netlist has the net (26), no earlier row has its net (29), and a flip-flop drives the net (37)
unfoldable pub clock_row_checks : Netlist → ℕ → List ClockRow → ClockRow → List Check
clock_row_checks netlist n earlier row =
    check (fault.UnknownNet n) (is_none (number_of netlist row.net)) ∷ check (fault.RepeatedRow n) (list_any (λ other. bytes_eq other.net row.net) earlier)
    ∷ check (fault.NotFlop n) (not (driver_named netlist is_flop row.net)) ∷ []

-- of a row of first levels: the netlist has the net (26), no earlier row has its net (29), and a flip-flop drives the net (37)
unfoldable pub initial_row_checks : Netlist → ℕ → List InitialRow → InitialRow → List Check
initial_row_checks netlist n earlier row =
    check (fault.UnknownNet n) (is_none (number_of netlist row.net)) ∷ check (fault.RepeatedRow n) (list_any (λ other. bytes_eq other.net row.net) earlier)
    ∷ check (fault.NotFlop n) (not (driver_named netlist is_flop row.net)) ∷ []
