use Rattle.std.proofs.Common.{◌≡◌, map, take}
use Rattle.cmb_netlist.specs.Netlist.{name_of}
use Rattle.cmb_run_scopes.specs.Scopes.{parts}
use Rattle.cmb_run_scopes.proofs.header.paths_of.Given as goal

abbrev pub invariant-loop-net : goal.invariant-loop-net
invariant-loop-net l = l.paths.items ≡ map (λ net. parts (name_of l.netlist net)) (take l.net-index l.nets)
