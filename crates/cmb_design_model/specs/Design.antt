-- What contracts see of a design: the netlist, the settings, and the rows of the four tables as they were read.
use Rattle.std.specs.Prelude.{ℕ, List, Option, option_map}
use Rattle.cmb_wave.specs.declared.level.Level.{Level}
use Rattle.cmb_netlist.specs.Netlist.{Netlist}
use Rattle.cmb_design_model.specs.declared.rows.DelayRow.{DelayRow}
use Rattle.cmb_design_model.specs.declared.rows.StimulusRow.{StimulusRow}
use Rattle.cmb_design_model.specs.declared.rows.ClockRow.{ClockRow}
use Rattle.cmb_design_model.specs.declared.rows.InitialRow.{InitialRow}
use Rattle.cmb_design_model.specs.declared.rows.Clock.{Clock}
use Rattle.cmb_design_model.specs.declared.settings.Settings.{Settings}

pub record Design : Type 0 where
  pub netlist : Netlist
  -- the ticks below it are simulated
  pub horizon : ℕ
  -- what a flip-flop without a row of first levels shows until its first sample has passed its delay
  pub init : Level
  pub clock : Option Clock
  pub delays : List DelayRow
  pub stimuli : List StimulusRow
  pub clocks : List ClockRow
  pub initial : List InitialRow

-- a clock that is given as its first tick and its period
abbrev pub clock_given : ℕ × ℕ → Clock
clock_given pair = record { first = pair.0; period = pair.1 }

abbrev pub design_of : Netlist → Settings → List DelayRow → List StimulusRow → List ClockRow → List InitialRow → Design
design_of netlist settings delays stimuli clocks initial = record {
  netlist = netlist;
  horizon = settings.horizon;
  init = settings.init;
  clock = option_map clock_given settings.clock;
  delays = delays;
  stimuli = stimuli;
  clocks = clocks;
  initial = initial;
}
