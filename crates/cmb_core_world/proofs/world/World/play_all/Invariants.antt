use Rattle.std.proofs.Common.{◌≡◌, take}
use Rattle.cmb_design_model.specs.Design.{Design}
use Rattle.cmb_core_cluster.specs.Clustering.{Clustering}
use Rattle.cmb_core_world.specs.World.{world_after, world_replies}
use Rattle.cmb_core_world.specs.Play.{IsWorldOf, shown}
use Rattle.cmb_core_world.proofs.world.World.play_all.Given as goal

abbrev pub invariant-loop-event : goal.invariant-loop-event
invariant-loop-event l = record {
  kept : (design : Design) (clustering : Clustering) → IsWorldOf design clustering l.initial.self → IsWorldOf design clustering l.self;
  world : (design : Design) (clustering : Clustering) → IsWorldOf design clustering l.initial.self → shown l.self ≡ world_after design clustering (shown l.initial.self) (take l.event-index l.events);
  replies : (design : Design) (clustering : Clustering) → IsWorldOf design clustering l.initial.self → l.replies.items ≡ world_replies design clustering (shown l.initial.self) (take l.event-index l.events);
}
