-- What a run is of: the design and the clustering that its types name.
use Rattle.std.specs.Prelude.{◌≡◌, length}
use Rattle.cmb_core_cluster.specs.Clustering.{Clustering}
use Rattle.cmb_design_model.specs.Design.{Design}
use Rattle.cmb_design_model.specs.Exact.{nets_of}

-- these are the design and the clustering that are named, and there is a cluster for each net
pub record IsOfRun (design : Design) (clustering : Clustering) (given : Design) (dealt : Clustering) : Type 0 where
  pub design_is : given ≡ design
  pub clustering_is : dealt ≡ clustering
  pub nets : length dealt.assign ≡ nets_of given
