use Rattle.std.proofs.Common.{◌≡◌, take, length}
use Rattle.cmb_core_cluster.specs.Opened.{AreProcessesOf}
use Rattle.cmb_core_cluster.specs.Inner.Opening.{AllStartOn}
use Rattle.cmb_core_cluster.proofs.open.nodes_of.Given as goal

abbrev pub invariant-loop-net : goal.invariant-loop-net
invariant-loop-net l = record {
  processes : AreProcessesOf l.design l.clustering l.cluster (take l.net-index l.nets) l.nodes.items;
  count : length l.nodes.items ≡ l.net-index;
  start : AllStartOn l.places l.nodes.items;
}
