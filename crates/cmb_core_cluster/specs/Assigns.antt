-- When an assignment of nets to clusters stands.
use Rattle.std.specs.Prelude.{◌≡◌, ℕ, ◌%◌, not, ◌||◌, nat_lt, nat_eq, List, length, if◌then◌else◌, Result, Ok, Err, IsOk, map}
use Rattle.std.specs.List.{list_all, range_with_len}
use Rattle.cmb_core_cluster.specs.Clustering.{Clustering}
use Rattle.cmb_core_cluster.specs.declared.clustering.ClusteringFault.{ClusteringFault}
use Rattle.cmb_core_cluster.specs.declared.clustering.ClusteringFault.TheVariants.{Clusters, Assign, Memory}

-- from 1 to 64 clusters, and one entry for each net, each below the number of clusters
abbrev pub checked_clustering : ℕ → ℕ → List ℕ → Result Clustering ClusteringFault
checked_clustering nets clusters assign =
    if nat_lt clusters 1 || nat_lt 64 clusters then Err Clusters
    else if not (nat_eq (length assign) nets) || not (list_all (λ cluster. nat_lt cluster clusters) assign) then Err Assign
    else Ok (record { clusters = clusters; assign = assign })

-- net n in cluster `n mod clusters`
abbrev pub round_robin : ℕ → ℕ → Clustering
round_robin nets clusters = record { clusters = clusters; assign = map (λ net. net % clusters) (range_with_len 0 nets) }

-- the same, where there are from 1 to 64
abbrev pub spread_clustering : ℕ → ℕ → Result Clustering ClusteringFault
spread_clustering nets clusters =
    if nat_lt clusters 1 || nat_lt 64 clusters then Err Clusters
    else Ok (round_robin nets clusters)

-- what cluster c has goes to cluster `c mod clusters`
abbrev pub merged_clustering : Clustering → ℕ → Clustering
merged_clustering clustering clusters = record { clusters = clusters; assign = map (λ cluster. cluster % clusters) clustering.assign }

-- a fault is the one that stands, and want of memory comes where none does
abbrev pub RefusesClustering : ClusteringFault → Result Clustering ClusteringFault → Type 0
RefusesClustering Memory result = IsOk result
RefusesClustering fault result = result ≡ Err fault
