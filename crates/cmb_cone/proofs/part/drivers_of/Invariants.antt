use Rattle.std.proofs.Common.{◌≡◌, map, take, get_or}
use Rattle.cmb_netlist.specs.Netlist.{driver_of}
use Rattle.cmb_cone.specs.Restriction.{with_nets}
use Rattle.cmb_cone.proofs.part.drivers_of.Given as goal

abbrev pub invariant-loop-net : goal.invariant-loop-net
invariant-loop-net l = l.drivers.items ≡ map (λ net. with_nets (λ n. get_or l.kept.places.now n 0) (driver_of l.netlist net)) (take l.net-index l.kept.nets.now)
