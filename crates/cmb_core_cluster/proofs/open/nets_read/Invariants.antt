use Rattle.cmb_core_cluster.specs.Inner.Opening.{AreRead}
use Rattle.cmb_core_cluster.proofs.open.nets_read.Given as goal

abbrev pub invariant-loop-net : goal.invariant-loop-net
invariant-loop-net l = AreRead l.design l.clustering l.cluster l.net l.read.items
