use Rattle.std.proofs.Common.{◌≡◌, take}
use Rattle.cmb_core_cluster.specs.Inner.Arrivals.{levels}
use Rattle.cmb_core_cluster.proofs.merge.read_levels.Given as goal

abbrev pub invariant-loop-pin : goal.invariant-loop-pin
invariant-loop-pin l = l.seen.items ≡ levels (take l.pin-index l.pins)
