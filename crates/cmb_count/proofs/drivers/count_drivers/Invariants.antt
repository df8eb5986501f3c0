use Rattle.std.proofs.Common.{◌≡◌, ◌≤◌}
use Rattle.cmb_netlist.specs.Netlist.{driver_of}
use Rattle.cmb_count.specs.Below.{count_below}
use Rattle.cmb_count.specs.DriverKinds.{has_kind}
use Rattle.cmb_count.proofs.drivers.count_drivers.Given as goal

abbrev pub invariant-loop-net : goal.invariant-loop-net
invariant-loop-net l = (l.count ≡ count_below (λ net. has_kind l.wanted (driver_of l.netlist net)) l.net) × (l.count ≤ l.net)
