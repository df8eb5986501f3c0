use Rattle.std.proofs.Common.{◌≡◌, ◌≤◌}
use Rattle.cmb_count.specs.Below.{count_below}
use Rattle.cmb_count.specs.DriverKinds.{is_silent}
use Rattle.cmb_count.proofs.drivers.count_silent.Given as goal

abbrev pub invariant-loop-net : goal.invariant-loop-net
invariant-loop-net l = (l.count ≡ count_below (is_silent l.design) l.net) × (l.count ≤ l.net)
