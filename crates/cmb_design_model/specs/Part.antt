-- A design's settings and rows for another netlist.
use Rattle.std.specs.Prelude.{ℕ, Bool, true, List, is_some}
use Rattle.std.specs.List.{filter}
use Rattle.cmb_netlist.specs.Netlist.{Netlist, number_of}
use Rattle.cmb_design_model.specs.Design.{Design}
use Rattle.cmb_design_model.specs.declared.rows.Delayed.{Delayed}
use Rattle.cmb_design_model.specs.declared.rows.Delayed.TheVariants.{Pin, Net, Kind as ByKind}

-- the netlist has a net of this name
abbrev pub has_net : Netlist → List ℕ → Bool
has_net netlist name = is_some (number_of netlist name)

-- a delay row may be of use to the netlist: what it is about is a kind, or a net that the netlist has, or a pin of one
abbrev pub has_delayed : Netlist → Delayed → Bool
has_delayed netlist (Pin name pin) = has_net netlist name
has_delayed netlist (Net name) = has_net netlist name
has_delayed netlist (ByKind cell) = true

-- another netlist with a design's settings, and with those of its rows that aren't about nets that this netlist lacks
abbrev pub design_on : Design → Netlist → Design
design_on design netlist = record {
  netlist = netlist;
  horizon = design.horizon;
  init = design.init;
  clock = design.clock;
  delays = filter (λ row. has_delayed netlist row.what) design.delays;
  stimuli = filter (λ row. has_net netlist row.net) design.stimuli;
  clocks = filter (λ row. has_net netlist row.net) design.clocks;
  initial = filter (λ row. has_net netlist row.net) design.initial;
}
