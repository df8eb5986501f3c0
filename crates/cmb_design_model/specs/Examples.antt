-- Small designs, on which the definitions are tried.
use Rattle.std.specs.Prelude.{ℕ, List, [], ◌∷◌, Option, Some, None, codes}
use Rattle.cmb_wave.specs.declared.level.Level.{Level}
use Rattle.cmb_wave.specs.declared.level.Level.TheVariants.{Zero, One, X}
use Rattle.cmb_wave.specs.declared.level.Change.{Change}
use Rattle.cmb_netlist.specs.declared.netlist.Cell.TheVariants.{Flop as FlopCell}
use Rattle.cmb_netlist.specs.declared.netlist.Driver.TheVariants.{Input, Gate, Flop}
use Rattle.cmb_netlist.specs.declared.netlist.Kind.TheVariants.{And, Nor, Not}
use Rattle.cmb_design_model.specs.Design.{Design}
use Rattle.cmb_design_model.specs.declared.rows.Clock.{Clock}
use Rattle.cmb_design_model.specs.declared.rows.ClockRow.{ClockRow}
use Rattle.cmb_design_model.specs.declared.rows.DelayRow.{DelayRow}
use Rattle.cmb_design_model.specs.declared.rows.InitialRow.{InitialRow}
use Rattle.cmb_design_model.specs.declared.rows.Delayed.TheVariants.{Pin, Net, Kind as ByKind}
use Rattle.cmb_design_model.specs.declared.rows.StimulusRow.{StimulusRow}

-- a change to a level at a tick
abbrev pub to : Level → ℕ → Change
to level tick = record { tick = tick; level = level }

-- a stimulus row, a delay row of a pin, one of a net, a clock row, and a row of first levels
abbrev pub stimulus_row : ℕ → List ℕ → Level → StimulusRow
stimulus_row tick net level = record { tick = tick; net = net; level = level }

abbrev pub pin_row : List ℕ → ℕ → ℕ → DelayRow
pin_row net pin delay = record { what = Pin net pin; delay = delay }

abbrev pub net_row : List ℕ → ℕ → DelayRow
net_row net delay = record { what = Net net; delay = delay }

abbrev pub clock_row : List ℕ → ℕ → ℕ → ClockRow
clock_row net first period = record { net = net; first = first; period = period }

abbrev pub initial_row : List ℕ → Level → InitialRow
initial_row net level = record { net = net; level = level }

abbrev pub clock_at : ℕ → ℕ → Option Clock
clock_at first period = Some (record { first = first; period = period })

-- INPUT(a), y = NOT(a)
abbrev pub inverter : Design
inverter = record {
  netlist = record {
    names = codes "a" ∷ codes "y" ∷ [];
    drivers = Input ∷ Gate Not (0 ∷ []) ∷ [];
    outputs = 1 ∷ [];
  };
  horizon = 10;
  init = X;
  clock = None;
  delays = [];
  stimuli = stimulus_row 0 (codes "a") Zero ∷ stimulus_row 5 (codes "a") One ∷ [];
  clocks = [];
  initial = [];
}

-- q = DFF(d), d = NOT(q): a flip-flop that is its own inverse
abbrev pub toggle : Design
toggle = record {
  netlist = record {
    names = codes "q" ∷ codes "d" ∷ [];
    drivers = Flop 1 ∷ Gate Not (0 ∷ []) ∷ [];
    outputs = [];
  };
  horizon = 12;
  init = Zero;
  clock = clock_at 2 4;
  delays = [];
  stimuli = [];
  clocks = [];
  initial = [];
}

-- INPUT(a), b = NOT(a), y = AND(a, b), with the inverter's settings and stimuli: a pulse of one tick
abbrev pub pulse : Design
pulse = record inverter {
  netlist = record {
    names = codes "a" ∷ codes "b" ∷ codes "y" ∷ [];
    drivers = Input ∷ Gate Not (0 ∷ []) ∷ Gate And (0 ∷ 1 ∷ []) ∷ [];
    outputs = [];
  };
}

-- INPUT(r), INPUT(s), nq = NOR(s, q), q = NOR(r, nq)
abbrev pub latch : Design
latch = record {
  netlist = record {
    names = codes "r" ∷ codes "s" ∷ codes "nq" ∷ codes "q" ∷ [];
    drivers = Input ∷ Input ∷ Gate Nor (1 ∷ 3 ∷ []) ∷ Gate Nor (0 ∷ 2 ∷ []) ∷ [];
    outputs = [];
  };
  horizon = 12;
  init = X;
  clock = None;
  delays = [];
  stimuli = stimulus_row 0 (codes "r") One ∷ stimulus_row 0 (codes "s") Zero ∷ stimulus_row 5 (codes "r") Zero ∷ stimulus_row 8 (codes "s") One ∷ [];
  clocks = [];
  initial = [];
}

-- INPUT(G0), OUTPUT(G3), G1 = DFF(G2), G2 = NOR(G0, G1), G3 = NOT(G1), with delay rows for the flip-flops and for G3
abbrev pub usual_layout : Design
usual_layout = record {
  netlist = record {
    names = codes "G0" ∷ codes "G1" ∷ codes "G2" ∷ codes "G3" ∷ [];
    drivers = Input ∷ Flop 2 ∷ Gate Nor (0 ∷ 1 ∷ []) ∷ Gate Not (1 ∷ []) ∷ [];
    outputs = 3 ∷ [];
  };
  horizon = 12;
  init = Zero;
  clock = clock_at 3 5;
  delays = record { what = ByKind FlopCell; delay = 2 } ∷ net_row (codes "G3") 3 ∷ [];
  stimuli = stimulus_row 0 (codes "G0") Zero ∷ [];
  clocks = [];
  initial = [];
}

-- INPUT(a), p = DFF(a), q = DFF(p)
abbrev pub two_flops : Design
two_flops = record {
  netlist = record {
    names = codes "a" ∷ codes "p" ∷ codes "q" ∷ [];
    drivers = Input ∷ Flop 0 ∷ Flop 1 ∷ [];
    outputs = [];
  };
  horizon = 12;
  init = Zero;
  clock = clock_at 2 4;
  delays = [];
  stimuli = stimulus_row 0 (codes "a") Zero ∷ stimulus_row 3 (codes "a") One ∷ [];
  clocks = [];
  initial = [];
}

-- a design with other settings or rows
abbrev pub with_horizon : Design → ℕ → Design
with_horizon design horizon = record design { horizon = horizon }

abbrev pub with_clock : Design → Option Clock → Design
with_clock design clock = record design { clock = clock }

abbrev pub with_delays : Design → List DelayRow → Design
with_delays design rows = record design { delays = rows }

abbrev pub with_stimuli : Design → List StimulusRow → Design
with_stimuli design rows = record design { stimuli = rows }

abbrev pub with_clocks : Design → List ClockRow → Design
with_clocks design rows = record design { clocks = rows }

abbrev pub with_initial : Design → List InitialRow → Design
with_initial design rows = record design { initial = rows }
