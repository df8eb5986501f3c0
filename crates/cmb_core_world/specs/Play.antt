-- The world as contracts see it: its clusters with their processes, and what a call on it comes to.
use Rattle.std.specs.Prelude.{◌≡◌, ℕ, ◌<◌, ◌&&◌, Bool, true, false, nat_lt, List, [], length, map, slice_index, slice_index_or, slice_set, Option, Some, None, is_some, Result, Ok, Err, OnErr, if◌then◌else◌}
use Rattle.cmb_wave.specs.declared.level.Promise.{Promise}
use Rattle.cmb_wave.specs.Wave.{Piece, Wave}
use Rattle.cmb_netlist.specs.Netlist.{IsNetlist}
use Rattle.cmb_design_model.specs.Design.{Design}
use Rattle.cmb_design_model.specs.Exact.{nets_of}
use Rattle.cmb_core_protocol.specs.declared.event.Event.{Event}
use Rattle.cmb_core_protocol.specs.declared.event.Reply.{Reply}
use Rattle.cmb_core_protocol.specs.declared.event.Reply.TheVariants.{Stepped, Posted, Delivered, Promised, Looked}
use Rattle.cmb_core_protocol.specs.declared.event.PlayFault.{PlayFault}
use Rattle.cmb_core_protocol.specs.declared.event.PlayFault.TheVariants.{Memory}
use Rattle.cmb_core_cluster.specs.Clustering.{Clustering, IsClustering, has_input}
use Rattle.cmb_core_cluster.specs.Clusters.{Cluster, IsSameButWaves}
use Rattle.cmb_core_cluster.specs.Opened.{IsClusterOf}
use Rattle.cmb_core_cluster.specs.Step.{wave_at}
use Rattle.cmb_core_world.specs.World.{WorldWaves, Played, out_wave, in_wave, new_world, play_world, world_after}

-- what contracts see of a world
pub record World : Type 0 where
  -- the cluster of each net
  pub assign : List ℕ
  pub clusters : List Cluster
  pub posts : List Piece
  pub promises : List Promise

-- its waves, posts and promises
abbrev pub shown : World → WorldWaves
shown world = record { clusters = map (λ cluster. cluster.waves) world.clusters; posts = world.posts; promises = world.promises }

abbrev pub cluster_at : World → ℕ → Cluster
cluster_at world cluster = slice_index_or world.clusters cluster (record { horizon = 0; processes = []; waves = [] })

-- the world is one of a design by a clustering: each cluster is the design's, whatever its waves hold by now
pub record IsWorldOf (design : Design) (clustering : Clustering) (world : World) : Type 0 where
  pub netlist : IsNetlist design.netlist
  pub lawful : IsClustering (nets_of design) clustering
  pub assign : world.assign ≡ clustering.assign
  pub clusters : length world.clusters ≡ clustering.clusters
  pub each : (cluster : ℕ) → cluster < clustering.clusters → IsClusterOf design clustering cluster (cluster_at world cluster)

-- every world is one of some design
pub record HasDesign (world : World) : Type 0 where
  pub design : Design
  pub clustering : Clustering
  pub of : IsWorldOf design clustering world

-- the wave of a net in the cluster that drives it
abbrev pub home_wave : World → ℕ → Wave
home_wave world net = wave_at (cluster_at world (slice_index world.assign net)).waves net

-- a piece that was posted
abbrev pub post_at : World → ℕ → Piece
post_at world number = slice_index_or world.posts number (record { net = 0; from = 0; to = 0; changes = [] })

-- a cluster's waves changed, and nothing else did
pub record IsSameBut (cluster : ℕ) (old new : World) : Type 0 where
  pub world : new ≡ record old { clusters = slice_set old.clusters cluster (cluster_at new cluster) }
  pub still : IsSameButWaves (cluster_at old cluster) (cluster_at new cluster)

-- no event adds a net or a cluster
pub record IsSameSize (old new : World) : Type 0 where
  pub nets : length new.assign ≡ length old.assign
  pub clusters : length new.clusters ≡ length old.clusters

-- to give this reply something has to be kept: a new part of a wave, a post or a promise
abbrev pub takes_memory : Result Reply PlayFault → Bool
takes_memory (Ok (Stepped part)) = is_some part
takes_memory (Ok (Posted number)) = is_some number
takes_memory (Ok (Delivered clock)) = true
takes_memory (Ok (Promised number promise)) = true
takes_memory (Ok (Looked heard)) = false
takes_memory (Err fault) = false

-- the event went as it is defined; where memory was wanted nothing changed, and the reply would have been one that takes some
abbrev pub Plays : Played → WorldWaves → WorldWaves → Result Reply PlayFault → Type 0
Plays played before after (Err Memory) = (after ≡ before) × (takes_memory played.reply ≡ true)
Plays played before after reply = (played.world ≡ after) × (played.reply ≡ reply)

-- an event on a world went as it is defined, whatever design the world is one of: it stays one of that design, and a refusal changes nothing
pub record IsAnswer (event : Event) (old new : World) (reply : Result Reply PlayFault) : Type 0 where
  pub played : (design : Design) (clustering : Clustering) → IsWorldOf design clustering old → Plays (play_world design clustering (shown old) event) (shown old) (shown new) reply
  pub kept : (design : Design) (clustering : Clustering) → IsWorldOf design clustering old → IsWorldOf design clustering new
  pub unchanged : OnErr reply (new ≡ old)
  pub size : IsSameSize old new

-- the world came about from newly opened clusters by these events
abbrev pub IsReached : Design → Clustering → WorldWaves → List Event → Type 0
IsReached design clustering world past = world ≡ world_after design clustering (new_world design clustering) past

-- how far a net is known to the cluster that drives it, none where there is no such net
abbrev pub known_out : Design → Clustering → WorldWaves → ℕ → Option ℕ
known_out design clustering world net =
    if nat_lt net (nets_of design) then Some (out_wave clustering world net).clock else None

-- how far a net is known to a cluster that reads it, none where the cluster has no input wave of it
abbrev pub known_in : Design → Clustering → WorldWaves → ℕ → ℕ → Option ℕ
known_in design clustering world cluster net =
    if nat_lt cluster clustering.clusters && has_input design clustering cluster net then Some (in_wave world cluster net).clock else None
