-- What the private tables of a design hold.
use Rattle.std.specs.Prelude.{◌≡◌, ◌<◌, ◌^◌, length, map}
use Rattle.cmb_design_model.specs.Design.{Design}
use Rattle.cmb_design_model.specs.Inner.Tables.{clock_places, initial_places, starts_of, table_size}
use Rattle.cmb_design_model.specs.Timing.{flat_delays}
use Rattle.cmb_design_model.specs.Lawful.{IsDesign}
use Rattle.cmb_design_model.specs.Inner.Stimuli.{stimulus_changes}
use Rattle.cmb_design_model.specs.Inner.RowLevels.{changes_in}
use Rattle.cmb_design_model.specs.declared.design.Design.TheInside.{Inside}
use Rattle.cmb_design_model.specs.declared.design.Tables.{Tables}

-- the design that the fields of one say
abbrev pub seen : Inside → Design
seen a = record {
  netlist = a.netlist;
  horizon = a.horizon;
  init = a.init;
  clock = a.clock;
  delays = a.delays;
  stimuli = a.stimuli;
  clocks = a.clocks;
  initial = a.initial;
}

pub record AreTables (design : Design) (tables : Tables) : Type 0 where
  pub starts : tables.starts.items ≡ starts_of design.netlist
  pub room : table_size design.netlist < 2 ^ 64
  pub delays : tables.delays.items ≡ flat_delays design.netlist design.delays (length design.netlist.names)
  pub changes : map changes_in tables.changes.items ≡ stimulus_changes design.netlist design.stimuli 4294967296
  pub own_clocks : tables.own_clocks.items ≡ clock_places design.netlist design.clocks
  pub own_levels : tables.own_levels.items ≡ initial_places design.netlist design.initial
  pub lawful : IsDesign design
