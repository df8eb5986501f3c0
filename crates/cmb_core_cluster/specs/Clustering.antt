-- Which cluster has the process of each net.
use Rattle.std.specs.Prelude.{◌≡◌, ℕ, zero, suc, ◌<◌, ◌≤◌, Bool, false, not, ◌&&◌, ◌||◌, ◌==◌, List, length, slice_index, All}
use Rattle.std.specs.List.{list_any}
use Rattle.cmb_netlist.specs.Netlist.{driver_of, pins_of}
use Rattle.cmb_design_model.specs.Design.{Design}
use Rattle.cmb_design_model.specs.Exact.{nets_of}

pub record Clustering : Type 0 where
  pub clusters : ℕ
  -- the cluster of each net
  pub assign : List ℕ

pub record IsClustering (nets : ℕ) (clustering : Clustering) : Type 0 where
  pub few : (1 ≤ clustering.clusters) × (clustering.clusters ≤ 64)
  pub each : length clustering.assign ≡ nets
  pub there : All (λ cluster. cluster < clustering.clusters) clustering.assign

abbrev pub cluster_of : Clustering → ℕ → ℕ
cluster_of clustering net = slice_index clustering.assign net

-- the test holds of some number below the bound
abbrev pub some_below : (ℕ → Bool) → ℕ → Bool
some_below test zero = false
some_below test (suc n) = test n || some_below test n

-- the driver of `net` has `other` on a pin
abbrev pub net_reads : Design → ℕ → ℕ → Bool
net_reads design net other = list_any (λ pin. pin == other) (pins_of (driver_of design.netlist net))

-- the cluster has an input wave of the net: one of its own nets reads it, and it isn't its own
unfoldable pub has_input : Design → Clustering → ℕ → ℕ → Bool
has_input design clustering cluster net =
    not (cluster_of clustering net == cluster) && some_below (λ reader. cluster_of clustering reader == cluster && net_reads design reader net) (nets_of design)
