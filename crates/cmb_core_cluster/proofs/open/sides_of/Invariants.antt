use Rattle.std.proofs.Common.{◌≡◌, take}
use Rattle.cmb_core_cluster.specs.Directory.{driven_among, given_among}
use Rattle.cmb_core_cluster.proofs.open.sides_of.Given as goal

abbrev pub invariant-loop-i : goal.invariant-loop-i
invariant-loop-i l = record {
  driven : l.driven.items ≡ driven_among (take l.i l.nodes) (take l.i l.nets);
  given : l.given.items ≡ given_among (take l.i l.nodes) (take l.i l.nets);
}
