use Rattle.std.proofs.Common.{◌≡◌, ℕ, List, take}
use Rattle.std.specs.List.{list_any}
use Rattle.cmb_bench.specs.Buses.{is_bit}
use Rattle.cmb_bench.specs.Statement.{is_member}
use Rattle.cmb_bench.proofs.buses.buses_of.Given as goal

abbrev pub invariant-loop-net : goal.invariant-loop-net
invariant-loop-net l = (name : List ℕ) → is_member name l.buses.keys ≡ list_any (is_bit name) (take l.net l.netlist.names)
