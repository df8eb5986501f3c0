use Rattle.std.proofs.Common.{◌≡◌}
use Rattle.cmb_design_model.specs.Design.{Design}
use Rattle.cmb_core_cluster.specs.Clustering.{Clustering}
use Rattle.cmb_core_world.specs.Play.{IsSameSize, IsWorldOf, shown}
use Rattle.cmb_core_world.specs.Rounds.{events_each, net_events}
use Rattle.cmb_core_world.specs.World.{world_after}
use Rattle.cmb_core_world.proofs.world.World.pass_on_each.Given as goal

abbrev pub invariant-loop-net : goal.invariant-loop-net
invariant-loop-net l = record {
  kept : (design : Design) (clustering : Clustering) → IsWorldOf design clustering l.initial.self → IsWorldOf design clustering l.self;
  played : (design : Design) (clustering : Clustering) → IsWorldOf design clustering l.initial.self → shown l.self ≡ world_after design clustering (shown l.initial.self) (events_each design clustering (net_events design clustering) 0 l.net (shown l.initial.self));
  same : IsSameSize l.initial.self l.self;
}
