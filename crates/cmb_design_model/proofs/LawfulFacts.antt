-- The numbers of a design of which no check stands.
use Rattle.std.proofs.Common.{◌≡◌, ◌≤◌, ℕ, Bool, List, [], ◌∷◌, ◌++◌, None, Some, Option, true, false, arith, cond}
use Rattle.std.specs.Prelude.{All, find, max, option_map, unwrap_or}
use Rattle.std.specs.Option.{option_or}
use Rattle.std.proofs.lemmas.List.Elements.{All-head, All-tail}
use Rattle.cmb_netlist.specs.Netlist.{IsNetlist, driver_of, number_of}
use Rattle.cmb_design_model.specs.Checks.{first_fault, rows_checks}
use Rattle.cmb_design_model.specs.Design.{Design}
use Rattle.cmb_design_model.specs.Lawful.{IsDesign}
use Rattle.cmb_design_model.specs.Nets.{driver_cell, is_at}
use Rattle.cmb_design_model.specs.Ranges.{AreRows, AreTicks, IsClockRow, IsDelay, IsDelayRow}
use Rattle.cmb_design_model.specs.Rows.{clock_row_checks, delay_row_checks, initial_row_checks, stimulus_row_checks}
use Rattle.cmb_design_model.specs.Settings.{design_checks, is_bad_clock, setting_checks}
use Rattle.cmb_design_model.specs.Timing.{clock_of_row}
use Rattle.cmb_design_model.specs.Timing.{clock_of, common_clock, delay, delay_by, delay_in, is_of_kind, is_of_net, is_of_pin}
use Rattle.cmb_design_model.specs.declared.rows.Clock.{Clock}
use Rattle.cmb_design_model.specs.declared.rows.ClockRow.{ClockRow}
use Rattle.cmb_design_model.specs.declared.rows.Delayed.{Delayed}
use Rattle.cmb_design_model.specs.declared.rows.DelayRow.{DelayRow}
use Rattle.cmb_design_model.proofs.RangeFacts.{first_passes, parts_pass, ticks_within, within}

-- what may be a delay is none above 1,000,000
abbrev IsLow : Option ℕ → Type 0
IsLow None = Unit {0}
IsLow (Some delay) = delay ≤ 1000000

delay_in-low : (test : Delayed → Bool) (rows : List DelayRow) → All (λ row. IsDelay row.delay) rows → IsLow (delay_in test rows)
delay_in-low test [] h = tt
delay_in-low test (row ∷ rows) h =
    by (test row.what) (All-head (λ r. IsDelay r.delay) row rows h).1 (delay_in-low test rows (All-tail (λ r. IsDelay r.delay) row rows h))
  where
    by : (b : Bool) → row.delay ≤ 1000000 → IsLow (delay_in test rows) → IsLow (option_map (λ r. r.delay) (cond b (Some row) (find (λ r. test r.what) rows)))
    by true low more = low
    by false low more = more

or-low : (a b : Option ℕ) → IsLow a → IsLow b → IsLow (option_or a b)
or-low None b h g = g
or-low (Some x) b h g = h

low-delay : (o : Option ℕ) → IsLow o → IsDelay (max (unwrap_or o 1) 1)
low-delay None h = (omega arith, omega arith)
low-delay (Some x) h = (omega arith, omega arith)

pub delay-small : (design : Design) (net pin : ℕ) → AreRows IsDelayRow design.delays → IsDelay (delay design net pin)
unfolding delay_by
delay-small design net pin h =
    let pins = delay_in-low (is_of_pin design.netlist net pin) design.delays h.lawful in
    let nets = delay_in-low (is_of_net design.netlist net) design.delays h.lawful in
    let kinds = delay_in-low (is_of_kind (driver_cell (driver_of design.netlist net))) design.delays h.lawful in
    low-delay _ (or-low _ _ pins (or-low _ _ nets kinds))

common-small : (o : Option Clock) → is_bad_clock o ≡ false → AreTicks (common_clock o).first (common_clock o).period
common-small None h = (omega arith, omega arith, omega arith)
common-small (Some clock) h =
    let t = ticks_within clock.first clock.period h in (t.0, omega arith, omega (arith, t.2))

clock-small : (test : ClockRow → Bool) (rows : List ClockRow) (other : Clock) → All (λ row. AreTicks row.first row.period) rows → AreTicks other.first other.period
    → let clock = unwrap_or (option_map clock_of_row (find test rows)) other in AreTicks clock.first clock.period
clock-small test [] other h g = g
clock-small test (row ∷ rows) other h g =
    by (test row) (All-head (λ r. AreTicks r.first r.period) row rows h) (clock-small test rows other (All-tail (λ r. AreTicks r.first r.period) row rows h) g)
  where
    by : (b : Bool) → AreTicks row.first row.period
        → (let clock = unwrap_or (option_map clock_of_row (find test rows)) other in AreTicks clock.first clock.period)
        → (let clock = unwrap_or (option_map clock_of_row (cond b (Some row) (find test rows))) other in AreTicks clock.first clock.period)
    by true t more = (t.0, omega arith, omega (arith, t.2))
    by false t more = more

-- a design of which no check stands, with rows as a reader gives them
pub lawful : (design : Design) → IsNetlist design.netlist → AreRows IsDelayRow design.delays → AreRows IsClockRow design.clocks → first_fault (design_checks design) ≡ None → IsDesign design
unfolding setting_checks clock_of
lawful design netlist delays clocks h =
    let settings = parts_pass (setting_checks design.netlist design.horizon design.clock design.clocks) (rows_checks (delay_row_checks design.netlist) design.delays ++ (rows_checks (stimulus_row_checks design.netlist) design.stimuli ++ (rows_checks (clock_row_checks design.netlist) design.clocks ++ rows_checks (initial_row_checks design.netlist) design.initial))) h in
    let horizon = first_passes _ _ settings.0 in
    let clock = first_passes _ _ horizon.1 in
    record {
      netlist = netlist;
      no_fault = h;
      horizon = within 1 1000000 design.horizon horizon.0;
      delays = λ net pin. delay-small design net pin delays;
      clocks = λ net. clock-small (λ row. is_at (number_of design.netlist row.net) net) design.clocks (common_clock design.clock) clocks.lawful (common-small design.clock clock.0);
    }
