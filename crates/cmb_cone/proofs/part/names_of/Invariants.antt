use Rattle.std.proofs.Common.{◌≡◌, map, take}
use Rattle.cmb_netlist.specs.Netlist.{name_of}
use Rattle.cmb_cone.proofs.part.names_of.Given as goal

abbrev pub invariant-loop-net : goal.invariant-loop-net
invariant-loop-net l = l.names.keys ≡ map (name_of l.netlist) (take l.net-index l.nets)
