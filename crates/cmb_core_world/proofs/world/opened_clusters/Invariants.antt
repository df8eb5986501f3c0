use Rattle.std.proofs.Common.{◌≡◌, ℕ, ◌<◌, [], length, map, get_or}
use Rattle.cmb_core_cluster.specs.Opened.{IsClusterOf}
use Rattle.cmb_core_world.specs.World.{new_clusters}
use Rattle.cmb_core_world.proofs.world.opened_clusters.Given as goal

abbrev pub invariant-loop-number : goal.invariant-loop-number
invariant-loop-number l = record {
  count : length l.clusters.items ≡ l.number;
  each : (k : ℕ) → k < l.number → IsClusterOf l.design l.clustering k (get_or l.clusters.items k (record { horizon = 0; processes = []; waves = [] }));
  waves : map (λ cluster. cluster.waves) l.clusters.items ≡ new_clusters l.design l.clustering 0 l.number;
}
