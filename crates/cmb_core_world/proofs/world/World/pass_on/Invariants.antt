use Rattle.std.proofs.Common.{◌≡◌}
use Rattle.cmb_design_model.specs.Design.{Design}
use Rattle.cmb_core_cluster.specs.Clustering.{Clustering}
use Rattle.cmb_core_world.specs.Play.{IsSameSize, IsWorldOf, shown}
use Rattle.cmb_core_world.specs.Rounds.{events_each, pass_on_events}
use Rattle.cmb_core_world.specs.World.{world_after}
use Rattle.cmb_core_world.proofs.world.World.pass_on.Given as goal

abbrev pub invariant-loop-cluster : goal.invariant-loop-cluster
invariant-loop-cluster l = record {
  kept : (design : Design) (clustering : Clustering) → IsWorldOf design clustering l.initial.self → IsWorldOf design clustering l.self;
  played : (design : Design) (clustering : Clustering) → IsWorldOf design clustering l.initial.self → shown l.self ≡ world_after design clustering (shown l.initial.self) (events_each design clustering (pass_on_events design clustering l.net) 0 l.cluster (shown l.initial.self));
  same : IsSameSize l.initial.self l.self;
}
