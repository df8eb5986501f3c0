-- Events in turn over a world, and over the clocks beside it.
use Rattle.std.proofs.Common.{◌≡◌, ℕ, ◌+◌, ◌<◌, List, [], ◌∷◌, ◌++◌, length, get_or, take, Result, Ok, Err, refl, sym, ◌∙◌, ap, subst}
use Rattle.std.proofs.lemmas.List.{take_more}
use Rattle.cmb_netlist.specs.Netlist.{IsNetlist}
use Rattle.cmb_design_model.specs.Design.{Design}
use Rattle.cmb_design_model.specs.Exact.{nets_of}
use Rattle.cmb_core_protocol.specs.declared.event.Event.{Event}
use Rattle.cmb_core_protocol.specs.declared.event.Event.TheVariants.{Step}
use Rattle.cmb_core_protocol.specs.declared.event.Reply.{Reply}
use Rattle.cmb_core_protocol.specs.declared.event.PlayFault.{PlayFault}
use Rattle.cmb_core_protocol.specs.declared.event.PlayFault.TheVariants.{NoSuch, Beyond, Stranger, Gap, Old, Clash, Memory}
use Rattle.cmb_core_cluster.specs.Clustering.{Clustering, IsClustering}
use Rattle.cmb_core_protocol.specs.Clocks.{Clocks, start, play}
use Rattle.cmb_core_protocol.specs.Run.{clocks_after, replies_to}
use Rattle.cmb_core_world.specs.World.{WorldWaves, Played, Shows, play_world, new_world, world_after, world_replies}
use Rattle.cmb_core_world.specs.Play.{Plays, IsReached}
use Rattle.cmb_core_protocol.proofs.Machine.{IsSound, play-goes, start-sound}
use Rattle.cmb_core_world.proofs.Worlds.{HasWaves, Follows, play-follows, run-follows, new_world-has, new_world-shows}

-- an event that wanted no memory
pub plays_on : (played : Played) (before after : WorldWaves) (reply : Result Reply PlayFault) → (reply ≡ Err Memory → ⊥) → Plays played before after reply → (played.world ≡ after) × (played.reply ≡ reply)
plays_on played before after (Ok reply) some p = p
plays_on played before after (Err NoSuch) some p = p
plays_on played before after (Err Beyond) some p = p
plays_on played before after (Err Stranger) some p = p
plays_on played before after (Err (Gap clock)) some p = p
plays_on played before after (Err (Old clock)) some p = p
plays_on played before after (Err (Clash tick)) some p = p
plays_on played before after (Err Memory) some p = absurd (some refl)

-- one event more
pub after_more : (design : Design) (clustering : Clustering) (world : WorldWaves) (events : List Event) (event : Event)
    → world_after design clustering world (events ++ event ∷ []) ≡ (play_world design clustering (world_after design clustering world events) event).world
after_more design clustering world [] event = refl
after_more design clustering world (first ∷ events) event = after_more design clustering (play_world design clustering world first).world events event

pub replies_more : (design : Design) (clustering : Clustering) (world : WorldWaves) (events : List Event) (event : Event)
    → world_replies design clustering world (events ++ event ∷ []) ≡ world_replies design clustering world events ++ (play_world design clustering (world_after design clustering world events) event).reply ∷ []
replies_more design clustering world [] event = refl
replies_more design clustering world (first ∷ events) event = ap (λ rs. (play_world design clustering world first).reply ∷ rs) (replies_more design clustering (play_world design clustering world first).world events event)

-- a world and clocks that belong together
pub record Together (design : Design) (clustering : Clustering) (world : WorldWaves) (clocks : Clocks) : Type 0 where
  pub has : HasWaves design clustering world
  pub sound : IsSound design clustering clocks
  pub shows : Shows design clustering world clocks

module _ (design : Design) (netlist : IsNetlist design.netlist) (clustering : Clustering) (lawful : IsClustering (nets_of design) clustering) where
  pub together_plays : (world : WorldWaves) (clocks : Clocks) (event : Event) → Together design clustering world clocks → Together design clustering (play_world design clustering world event).world (play design clustering clocks event).clocks
  together_plays world clocks event t =
      let next : Follows design clustering (play_world design clustering world event) (play design clustering clocks event) = play-follows design netlist clustering lawful world t.has clocks t.sound t.shows event in
      record { has = next.has; sound = (play-goes design clustering clocks t.sound event).0; shows = next.shows }

  pub together_after : (events : List Event) (world : WorldWaves) (clocks : Clocks) → Together design clustering world clocks → Together design clustering (world_after design clustering world events) (clocks_after design clustering clocks events)
  together_after [] world clocks t = t
  together_after (event ∷ events) world clocks t = together_after events (play_world design clustering world event).world (play design clustering clocks event).clocks (together_plays world clocks event t)

  -- what came about from newly opened clusters
  pub together_reached : (world : WorldWaves) (past : List Event) → IsReached design clustering world past → Together design clustering world (clocks_after design clustering (start design clustering) past)
  together_reached world past reached =
      let P : WorldWaves → Type 0 = λ w. Together design clustering w (clocks_after design clustering (start design clustering) past) in
      subst P (sym reached) (together_after past (new_world design clustering) (start design clustering) (record { has = new_world-has design clustering lawful; sound = start-sound design clustering; shows = new_world-shows design clustering }))

  pub run_from : (world : WorldWaves) (past events : List Event) → IsReached design clustering world past
      → Shows design clustering (world_after design clustering world events) (clocks_after design clustering (clocks_after design clustering (start design clustering) past) events)
      × (world_replies design clustering world events ≡ replies_to design clustering (clocks_after design clustering (start design clustering) past) events)
  run_from world past events reached =
      let t = together_reached world past reached in
      run-follows design netlist clustering lawful events world (clocks_after design clustering (start design clustering) past) t.has t.sound t.shows

-- ---- one event

-- what an event came to over a world that came about from newly opened clusters
module _ (design : Design) (clustering : Clustering) (now after : WorldWaves) (past : List Event) (event : Event) (reply : Result Reply PlayFault) (netlist : IsNetlist design.netlist) (lawful : IsClustering (nets_of design) clustering) (reached : IsReached design clustering now past)
    (played : Plays (play_world design clustering now event) now after reply) (some : reply ≡ Err Memory → ⊥) where
  went : ((play_world design clustering now event).world ≡ after) × ((play_world design clustering now event).reply ≡ reply)
  went = plays_on (play_world design clustering now event) now after reply some played

  pub play_shows : Shows design clustering after (play design clustering (clocks_after design clustering (start design clustering) past) event).clocks
  play_shows =
      let P : WorldWaves → Type 0 = λ w. Shows design clustering w (play design clustering (clocks_after design clustering (start design clustering) past) event).clocks in
      subst P went.0 (run_from design netlist clustering lawful now past (event ∷ []) reached).0

  pub play_replies : reply ≡ (play design clustering (clocks_after design clustering (start design clustering) past) event).reply
  play_replies =
      let one : (play_world design clustering now event).reply ∷ [] ≡ (play design clustering (clocks_after design clustering (start design clustering) past) event).reply ∷ [] = (run_from design netlist clustering lawful now past (event ∷ []) reached).1 in
      let same : (play_world design clustering now event).reply ≡ (play design clustering (clocks_after design clustering (start design clustering) past) event).reply = cc one in
      sym went.1 ∙ same

-- ---- one turn of a list of events

module _ (design : Design) (clustering : Clustering) (start now after : WorldWaves) (events : List Event) (i : ℕ) (listed : i < length events) (so_far : now ≡ world_after design clustering start (take i events)) (reply : Result Reply PlayFault) (some : reply ≡ Err Memory → ⊥) (played : Plays (play_world design clustering now (get_or events i (Step 0))) now after reply) where
  one_more : take (i + 1) events ≡ take i events ++ get_or events i (Step 0) ∷ []
  one_more = take_more events i (Step 0) listed

  pub turn_world : after ≡ world_after design clustering start (take (i + 1) events)
  turn_world =
      sym (plays_on (play_world design clustering now (get_or events i (Step 0))) now after reply some played).0
      ∙ ap (λ w. (play_world design clustering w (get_or events i (Step 0))).world) so_far
      ∙ sym (after_more design clustering start (take i events) (get_or events i (Step 0))) ∙ ap (world_after design clustering start) (sym one_more)

  pub turn_replies : (replies : List (Result Reply PlayFault)) → replies ≡ world_replies design clustering start (take i events) → replies ++ reply ∷ [] ≡ world_replies design clustering start (take (i + 1) events)
  turn_replies replies e =
      ap (λ rs. rs ++ reply ∷ []) e
      ∙ ap (λ r. world_replies design clustering start (take i events) ++ r ∷ []) (sym (plays_on (play_world design clustering now (get_or events i (Step 0))) now after reply some played).1 ∙ ap (λ w. (play_world design clustering w (get_or events i (Step 0))).reply) so_far)
      ∙ sym (replies_more design clustering start (take i events) (get_or events i (Step 0))) ∙ ap (world_replies design clustering start) (sym one_more)
