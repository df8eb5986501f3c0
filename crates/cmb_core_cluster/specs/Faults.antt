-- The number of each fault, by which a program tells it.
use Rattle.std.specs.Prelude.{ℕ}
use Rattle.cmb_core_cluster.specs.declared.clustering.ClusteringFault.{ClusteringFault}
use Rattle.cmb_core_cluster.specs.declared.clustering.ClusteringFault.TheVariants.{Clusters, Assign, Memory as ClusteringMemory}
use Rattle.cmb_core_cluster.specs.declared.delivery.DeliverFault.{DeliverFault}
use Rattle.cmb_core_cluster.specs.declared.delivery.DeliverFault.TheVariants.{Stranger, Gap, Old, Clash, Memory}

-- the number of a fault of an assignment
abbrev pub number_of_clustering_fault : ClusteringFault → ℕ
number_of_clustering_fault Clusters = 40
number_of_clustering_fault Assign = 41
number_of_clustering_fault ClusteringMemory = 70

-- the number of a fault of a piece that a cluster doesn't take
abbrev pub number_of_deliver_fault : DeliverFault → ℕ
number_of_deliver_fault Stranger = 44
number_of_deliver_fault (Gap clock) = 42
number_of_deliver_fault (Old clock) = 43
number_of_deliver_fault (Clash tick) = 47
number_of_deliver_fault Memory = 70
