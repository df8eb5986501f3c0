use Rattle.cmb_design_model.specs.Nets.{driver_cell}
use Rattle.cmb_netlist.specs.Netlist.{driver_of}
use Rattle.cmb_design_model.specs.Timing.{delay_by, is_of_pin, is_of_net, is_of_kind}
use Rattle.cmb_design_tables.proofs.BoundFacts.{delays_read, unbounded}
use Rattle.cmb_design_tables.proofs.laws.read_delays_are_positive.Goals as goal

pub returns : goal.returns
unfolding delay_by
returns c = record {
  rows = delays_read;
  delay = λ netlist rows net pin all. unbounded (is_of_pin netlist net pin) (is_of_net netlist net) (is_of_kind (driver_cell (driver_of netlist net))) rows all;
}
