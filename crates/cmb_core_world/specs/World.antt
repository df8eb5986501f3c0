-- The world of clusters as they stand, whatever their waves hold, and what each event does to it.
use Rattle.std.specs.Prelude.{◌≡◌, ℕ, zero, suc, ◌||◌, ◌<◌, true, nat_lt, nat_le, ◌==◌, List, [], ◌∷◌, ◌++◌, length, map, slice_index_or, slice_get, slice_set, Option, Some, None, Result, Ok, Err, if◌then◌else◌}
use Rattle.std.specs.List.{AllByRecursion}
use Rattle.cmb_wave.specs.declared.level.Promise.{Promise}
use Rattle.cmb_wave.specs.declared.level.Heard.TheVariants.{Old as HeardOld, Extended, Ahead}
use Rattle.cmb_wave.specs.Waveform.{last_level, at_or_after, clash}
use Rattle.cmb_wave.specs.Wave.{Piece, Wave, new_wave, wave_with_piece, wave_up_to, cut_of}
use Rattle.cmb_design_model.specs.Design.{Design}
use Rattle.cmb_design_model.specs.Exact.{nets_of, IsExactWaveIn}
use Rattle.cmb_core_protocol.specs.declared.event.Event.{Event}
use Rattle.cmb_core_protocol.specs.declared.event.Event.TheVariants.{Step, Post, Deliver, Promise as Promises, Look}
use Rattle.cmb_core_protocol.specs.declared.event.Reply.{Reply}
use Rattle.cmb_core_protocol.specs.declared.event.Reply.TheVariants.{Stepped, Posted, Delivered, Promised, Looked}
use Rattle.cmb_core_protocol.specs.declared.event.PlayFault.{PlayFault}
use Rattle.cmb_core_protocol.specs.declared.event.PlayFault.TheVariants.{NoSuch, Beyond, Stranger, Gap, Old, Clash}
use Rattle.cmb_core_cluster.specs.Clustering.{Clustering, cluster_of, has_input}
use Rattle.cmb_core_protocol.specs.Clocks.{Clocks, out_clock, in_clock, piece_of, promise_of}
use Rattle.cmb_core_cluster.specs.Step.{wave_at, step_reach, step_piece, with_wave}

pub record WorldWaves : Type 0 where
  -- the waves of each cluster: an output wave of each net of its own, an input wave of each other net that one of them reads
  pub clusters : List (List Wave)
  pub posts : List Piece
  pub promises : List Promise

abbrev pub waves_of : WorldWaves → ℕ → List Wave
waves_of world cluster = slice_index_or world.clusters cluster []

abbrev pub world_with_wave : WorldWaves → ℕ → Wave → WorldWaves
world_with_wave world cluster wave =
    record world { clusters = slice_set world.clusters cluster (with_wave (waves_of world cluster) wave) }

abbrev pub out_wave : Clustering → WorldWaves → ℕ → Wave
out_wave clustering world net = wave_at (waves_of world (cluster_of clustering net)) net

abbrev pub in_wave : WorldWaves → ℕ → ℕ → Wave
in_wave world cluster net = wave_at (waves_of world cluster) net

-- the world after an event, and its reply
pub record Played : Type 0 where
  pub world : WorldWaves
  pub reply : Result Reply PlayFault

abbrev pub answered : WorldWaves → Reply → Played
answered world reply = record { world = world; reply = Ok reply }

abbrev pub turned_down : WorldWaves → PlayFault → Played
turned_down world fault = record { world = world; reply = Err fault }

abbrev pub step_in : Design → WorldWaves → ℕ → List Wave → Wave → Played
step_in design world cluster waves wave =
    if nat_lt wave.clock (step_reach design waves wave.net)
    then answered (world_with_wave world cluster (wave_with_piece wave (step_piece design waves wave))) (Stepped (Some (step_piece design waves wave)))
    else answered world (Stepped None)

abbrev pub post_in : WorldWaves → Wave → ℕ → Played
post_in world wave from =
    if nat_lt wave.clock from then turned_down world Beyond
    else (if from == wave.clock then answered world (Posted None)
    else answered (record world { posts = world.posts ++ cut_of wave from ∷ [] }) (Posted (Some (length world.posts))))

abbrev pub taken_in : WorldWaves → ℕ → Wave → Piece → Option ℕ → Played
taken_in world cluster wave piece None = answered (world_with_wave world cluster (wave_with_piece wave piece)) (Delivered piece.to)
taken_in world cluster wave piece (Some tick) = turned_down world (Clash tick)

abbrev pub deliver_in : Design → Clustering → WorldWaves → ℕ → Option Piece → Played
deliver_in design clustering world cluster None = turned_down world NoSuch
deliver_in design clustering world cluster (Some piece) =
    let wave = in_wave world cluster piece.net in
    if has_input design clustering cluster piece.net
    then (if nat_lt wave.clock piece.from then turned_down world (Gap wave.clock)
    else (if nat_le piece.to wave.clock then turned_down world (Old wave.clock)
    else taken_in world cluster wave piece (clash (last_level wave.kept wave.changes) (at_or_after wave.clock piece.changes))))
    else turned_down world Stranger

abbrev pub promise_in : WorldWaves → Wave → Played
promise_in world wave =
    let promise : Promise = record { net = wave.net; count = wave.count; upto = wave.clock } in
    answered (record world { promises = world.promises ++ promise ∷ [] }) (Promised (length world.promises) promise)

abbrev pub look_in : Design → Clustering → WorldWaves → ℕ → Option Promise → Played
look_in design clustering world cluster None = turned_down world NoSuch
look_in design clustering world cluster (Some promise) =
    let wave = in_wave world cluster promise.net in
    if has_input design clustering cluster promise.net
    then (if nat_le promise.upto wave.clock then answered world (Looked HeardOld)
    else (if wave.count == promise.count
    then answered (world_with_wave world cluster (wave_up_to wave promise.upto)) (Looked Extended)
    else answered world (Looked Ahead)))
    else turned_down world Stranger

-- what an event does to the waves as they stand
abbrev pub play_world : Design → Clustering → WorldWaves → Event → Played
play_world design clustering world (Step net) =
    if nat_lt net (nets_of design) then step_in design world (cluster_of clustering net) (waves_of world (cluster_of clustering net)) (out_wave clustering world net) else turned_down world NoSuch
play_world design clustering world (Post net from) =
    if nat_lt net (nets_of design) then post_in world (out_wave clustering world net) from else turned_down world NoSuch
play_world design clustering world (Deliver cluster number) =
    if nat_lt cluster clustering.clusters then deliver_in design clustering world cluster (slice_get world.posts number) else turned_down world NoSuch
play_world design clustering world (Promises net) =
    if nat_lt net (nets_of design) then promise_in world (out_wave clustering world net) else turned_down world NoSuch
play_world design clustering world (Look cluster number) =
    if nat_lt cluster clustering.clusters then look_in design clustering world cluster (slice_get world.promises number) else turned_down world NoSuch

-- the world shows just these clocks, posts and promises, and all its waves are exact and whole
pub record Shows (design : Design) (clustering : Clustering) (world : WorldWaves) (clocks : Clocks) : Type 0 where
  pub exact : (cluster : ℕ) → AllByRecursion (IsExactWaveIn design) (waves_of world cluster)
  pub whole : (cluster net : ℕ) → (in_wave world cluster net).base ≡ 0
  pub outs : (net : ℕ) → net < nets_of design → (out_wave clustering world net).clock ≡ out_clock clocks net
  pub ins : (cluster net : ℕ) → cluster < clustering.clusters → has_input design clustering cluster net ≡ true → (in_wave world cluster net).clock ≡ in_clock clocks cluster net
  pub posts : world.posts ≡ map (piece_of design) clocks.posts
  pub promises : world.promises ≡ map (promise_of design) clocks.promises

-- the world after a list of events
abbrev pub world_after : Design → Clustering → WorldWaves → List Event → WorldWaves
world_after design clustering world [] = world
world_after design clustering world (event ∷ events) =
    world_after design clustering (play_world design clustering world event).world events

-- the replies to them
abbrev pub world_replies : Design → Clustering → WorldWaves → List Event → List (Result Reply PlayFault)
world_replies design clustering world [] = []
world_replies design clustering world (event ∷ events) =
    (play_world design clustering world event).reply ∷ world_replies design clustering (play_world design clustering world event).world events

-- new waves, of the nets from one on that a cluster drives or reads
abbrev pub new_waves : Design → Clustering → ℕ → ℕ → ℕ → List Wave
new_waves design clustering cluster net zero = []
new_waves design clustering cluster net (suc nets) =
    let rest = new_waves design clustering cluster (suc net) nets in
    if cluster_of clustering net == cluster || has_input design clustering cluster net then new_wave net ∷ rest else rest

-- newly opened clusters, from one on
abbrev pub new_clusters : Design → Clustering → ℕ → ℕ → List (List Wave)
new_clusters design clustering cluster zero = []
new_clusters design clustering cluster (suc clusters) =
    new_waves design clustering cluster 0 (nets_of design) ∷ new_clusters design clustering (suc cluster) clusters

abbrev pub new_world : Design → Clustering → WorldWaves
new_world design clustering =
    record { clusters = new_clusters design clustering 0 clustering.clusters; posts = []; promises = [] }
