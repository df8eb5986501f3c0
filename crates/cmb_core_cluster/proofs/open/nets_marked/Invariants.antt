use Rattle.std.proofs.Common.{◌≡◌, false, ◌||◌, eqb, get_or}
use Rattle.std.specs.Prelude.{filter}
use Rattle.std.specs.List.{range_with_len}
use Rattle.cmb_core_cluster.specs.Clustering.{cluster_of}
use Rattle.cmb_core_cluster.proofs.open.nets_marked.Given as goal

abbrev pub invariant-loop-net : goal.invariant-loop-net
invariant-loop-net l = l.nets.items ≡ filter (λ net. eqb (cluster_of l.clustering net) l.cluster || get_or l.read net false) (range_with_len 0 l.net)
