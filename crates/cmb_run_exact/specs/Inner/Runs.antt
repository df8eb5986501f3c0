-- Stands for the clustering of a run where none is named.
use Rattle.std.specs.Prelude.{[]}
use Rattle.cmb_core_cluster.specs.Clustering.{Clustering}

-- one cluster, and no nets
abbrev pub no_clustering : Clustering
no_clustering = record { clusters = 1; assign = [] }
