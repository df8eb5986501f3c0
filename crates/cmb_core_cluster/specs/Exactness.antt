-- Clusters whose waves say what the design defines.
use Rattle.std.specs.Prelude.{ℕ}
use Rattle.std.specs.List.{AllByRecursion}
use Rattle.cmb_design_model.specs.Design.{Design}
use Rattle.cmb_design_model.specs.Exact.{IsExactWaveIn}
use Rattle.cmb_core_cluster.specs.Clustering.{Clustering}
use Rattle.cmb_core_cluster.specs.Clusters.{Cluster}
use Rattle.cmb_core_cluster.specs.Opened.{IsClusterOf}

-- the cluster with this number, of a design by a clustering, each wave of which is its net's, up to its clock
pub record IsExactCluster (design : Design) (clustering : Clustering) (cluster : ℕ) (s : Cluster) : Type 0 where
  pub of : IsClusterOf design clustering cluster s
  pub waves : AllByRecursion (IsExactWaveIn design) s.waves
