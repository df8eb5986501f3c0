use Rattle.std.proofs.Common.{ℕ, ◌<◌}
use Rattle.std.specs.Prelude.{All}
use Rattle.cmb_netlist.specs.Netlist.{driver_of, pins_of}
use Rattle.cmb_graph_partition.specs.Partitions.{Knows, ShareDrives}
use Rattle.cmb_graph_partition.proofs.check.knows_all.Given as goal

abbrev pub invariant-loop-net : goal.invariant-loop-net
invariant-loop-net l = (net : ℕ) → net < l.net → ShareDrives l.partition l.number net → All (Knows l.partition l.number) (pins_of (driver_of l.netlist net))
