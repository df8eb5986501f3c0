-- When a world is complete or quiet, whatever its waves hold, and the events of a round.
use Rattle.std.specs.Prelude.{◌≡◌, ℕ, zero, suc, ◌<◌, ◌≤◌, true, ◌&&◌, nat_lt, List, [], ◌∷◌, ◌++◌, length, Result, OnOk, OnErr, if◌then◌else◌}
use Rattle.cmb_design_model.specs.Design.{Design}
use Rattle.cmb_design_model.specs.Exact.{nets_of}
use Rattle.cmb_core_protocol.specs.declared.event.Event.{Event}
use Rattle.cmb_core_protocol.specs.declared.event.Event.TheVariants.{Step, Post, Deliver}
use Rattle.cmb_core_cluster.specs.Clustering.{Clustering, cluster_of, has_input}
use Rattle.cmb_core_cluster.specs.Step.{step_reach}
use Rattle.cmb_core_world.specs.Play.{World, IsWorldOf, shown}
use Rattle.cmb_core_world.specs.World.{WorldWaves, waves_of, out_wave, in_wave, world_after}

-- every net is known up to the horizon in the cluster that drives it
abbrev pub IsCompleteWorld : Design → Clustering → WorldWaves → Type 0
IsCompleteWorld design clustering world = (net : ℕ) → net < nets_of design → (out_wave clustering world net).clock ≡ design.horizon

-- no step would raise an output clock, and every input clock equals its net's output clock
pub record IsQuietWorld (design : Design) (clustering : Clustering) (world : WorldWaves) : Type 0 where
  pub no_step : (net : ℕ) → net < nets_of design → step_reach design (waves_of world (cluster_of clustering net)) net ≤ (out_wave clustering world net).clock
  pub passed_on : (cluster net : ℕ) → cluster < clustering.clusters → has_input design clustering cluster net ≡ true → (in_wave world cluster net).clock ≡ (out_wave clustering world net).clock

-- the events of so many turns, from one on, each turn by the world that the ones before it left
abbrev pub events_each : Design → Clustering → (ℕ → WorldWaves → List Event) → ℕ → ℕ → WorldWaves → List Event
events_each design clustering turn from zero world = []
events_each design clustering turn from (suc many) world =
    turn from world ++ events_each design clustering turn (suc from) many (world_after design clustering world (turn from world))

abbrev pub step_event : ℕ → WorldWaves → List Event
step_event net world = Step net ∷ []

-- a net's new piece is posted and delivered to a cluster, where its input clock is below the output clock
abbrev pub pass_on_events : Design → Clustering → ℕ → ℕ → WorldWaves → List Event
pass_on_events design clustering net cluster world =
    if has_input design clustering cluster net && nat_lt (in_wave world cluster net).clock (out_wave clustering world net).clock
    then Post net (in_wave world cluster net).clock ∷ Deliver cluster (length world.posts) ∷ []
    else []

abbrev pub step_events : Design → Clustering → WorldWaves → List Event
step_events design clustering world = events_each design clustering step_event 0 (nets_of design) world

-- of one net, cluster by cluster
abbrev pub net_events : Design → Clustering → ℕ → WorldWaves → List Event
net_events design clustering net world = events_each design clustering (pass_on_events design clustering net) 0 clustering.clusters world

-- of all nets, net by net
abbrev pub passing_events : Design → Clustering → WorldWaves → List Event
passing_events design clustering world = events_each design clustering (net_events design clustering) 0 (nets_of design) world

-- one step of each net in order, then what is new is passed on
abbrev pub round_events : Design → Clustering → WorldWaves → List Event
round_events design clustering world =
    step_events design clustering world ++ passing_events design clustering (world_after design clustering world (step_events design clustering world))

-- so many rounds
abbrev pub world_rounds : Design → Clustering → ℕ → WorldWaves → WorldWaves
world_rounds design clustering zero world = world
world_rounds design clustering (suc many) world =
    let before = world_rounds design clustering many world in
    world_after design clustering before (round_events design clustering before)

-- every wave is known up to a tick at least
pub record IsKnownTo (design : Design) (clustering : Clustering) (tick : ℕ) (world : WorldWaves) : Type 0 where
  pub outs : (net : ℕ) → net < nets_of design → tick ≤ (out_wave clustering world net).clock
  pub ins : (cluster net : ℕ) → cluster < clustering.clusters → has_input design clustering cluster net ≡ true → tick ≤ (in_wave world cluster net).clock

-- some of these events were played, from the first on
pub record IsBegun (design : Design) (clustering : Clustering) (start : WorldWaves) (events : List Event) (now : WorldWaves) : Type 0 where
  pub done : List Event
  pub rest : List Event
  pub all : done ++ rest ≡ events
  pub here : now ≡ world_after design clustering start done

-- The events that a world gives were played on it, whatever design the world is one of, and it stays one of that design. Where
-- memory was wanted, some of them were, from the first on.
pub record ArePlayed {A E : Type 0} (events : Design → Clustering → WorldWaves → List Event) (old new : World) (result : Result A E) : Type 0 where
  pub kept : (design : Design) (clustering : Clustering) → IsWorldOf design clustering old → IsWorldOf design clustering new
  pub played : (design : Design) (clustering : Clustering) → IsWorldOf design clustering old
      → OnOk result (shown new ≡ world_after design clustering (shown old) (events design clustering (shown old)))
  pub memory : (design : Design) (clustering : Clustering) → IsWorldOf design clustering old
      → OnErr result (IsBegun design clustering (shown old) (events design clustering (shown old)) (shown new))
