-- The clusters of a design: which nets each one has, and their processes.
use Rattle.std.specs.Prelude.{◌≡◌, ◌≢◌, ℕ, ◌<◌, Bool, ◌==◌, ◌||◌, List, [], ◌∷◌, filter}
use Rattle.std.specs.List.{range_with_len}
use Rattle.cmb_netlist.specs.Netlist.{driver_of}
use Rattle.cmb_design_model.specs.Design.{Design}
use Rattle.cmb_design_model.specs.Exact.{nets_of}
use Rattle.cmb_core_cluster.specs.declared.process.ProcessRule.TheVariants.{Given}
use Rattle.cmb_core_cluster.specs.Clustering.{Clustering, cluster_of, has_input}
use Rattle.cmb_core_cluster.specs.Rows.{Process}
use Rattle.cmb_core_cluster.specs.Clusters.{Cluster, IsDrivenBy, wave_nets}

-- the net is one of the cluster's own
abbrev pub is_own : Clustering → ℕ → ℕ → Bool
is_own clustering cluster net = cluster_of clustering net == cluster

pub record IsOwnNet (design : Design) (clustering : Clustering) (cluster net : ℕ) : Type 0 where
  pub there : net < nets_of design
  pub own : cluster_of clustering net ≡ cluster

-- the nets of a cluster, the other nets that they read, and both, by rising number
abbrev pub own_nets : Design → Clustering → ℕ → List ℕ
own_nets design clustering cluster = filter (is_own clustering cluster) (range_with_len 0 (nets_of design))

abbrev pub read_nets : Design → Clustering → ℕ → List ℕ
read_nets design clustering cluster = filter (has_input design clustering cluster) (range_with_len 0 (nets_of design))

abbrev pub held_nets : Design → Clustering → ℕ → List ℕ
held_nets design clustering cluster = filter (λ net. is_own clustering cluster net || has_input design clustering cluster net) (range_with_len 0 (nets_of design))

-- an own net's process is that of its driver, and any other net's wave is given
pub record IsProcessOf (design : Design) (clustering : Clustering) (cluster net : ℕ) (process : Process) : Type 0 where
  pub own : cluster_of clustering net ≡ cluster → IsDrivenBy design net (driver_of design.netlist net) process
  pub given : cluster_of clustering net ≢ cluster → process.rule ≡ Given

abbrev pub AreProcessesOf : Design → Clustering → ℕ → List ℕ → List Process → Type 0
AreProcessesOf design clustering cluster [] [] = Unit {0}
AreProcessesOf design clustering cluster (net ∷ nets) (process ∷ processes) =
    IsProcessOf design clustering cluster net process × AreProcessesOf design clustering cluster nets processes
AreProcessesOf design clustering cluster _ _ = ⊥

-- the cluster is the one with this number, of a design by a clustering, whatever its waves hold by now
pub record IsClusterOf (design : Design) (clustering : Clustering) (cluster : ℕ) (s : Cluster) : Type 0 where
  pub horizon : s.horizon ≡ design.horizon
  pub nets : wave_nets s.waves ≡ held_nets design clustering cluster
  pub processes : AreProcessesOf design clustering cluster (held_nets design clustering cluster) s.processes
