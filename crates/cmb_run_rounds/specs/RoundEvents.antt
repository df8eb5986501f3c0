-- The events of a run in rounds, in the order in which the program makes them.
-- The workers step beside one another. Steps of different clusters commute, so that one order of the workers stands for all.
use Rattle.std.specs.Prelude.{ℕ, ◌<◌, ◌≤◌, zero, suc, nat_lt, List, [], ◌∷◌, ◌++◌, length, map, slice_index, if◌then◌else◌}
use Rattle.cmb_design_model.specs.Design.{Design}
use Rattle.cmb_core_cluster.specs.Clustering.{Clustering}
use Rattle.cmb_core_cluster.specs.Opened.{own_nets, read_nets}
use Rattle.cmb_core_protocol.specs.declared.event.Event.{Event}
use Rattle.cmb_core_protocol.specs.declared.event.Event.TheVariants.{Step, Post, Deliver}
use Rattle.cmb_core_protocol.specs.Clocks.{Clocks, out_clock, in_clock, start}
use Rattle.cmb_core_protocol.specs.Run.{clocks_after, IsComplete}

-- the events of so many turns, each by the clocks that the ones before it left
abbrev pub in_turn : Design → Clustering → (ℕ → Clocks → List Event) → ℕ → Clocks → List Event
in_turn design clustering turn zero clocks = []
in_turn design clustering turn (suc many) clocks =
    let before = in_turn design clustering turn many clocks in
    before ++ turn many (clocks_after design clustering clocks before)

-- a worker steps each net of its cluster once, by rising number
abbrev pub sweep_events : Design → Clustering → ℕ → Clocks → List Event
sweep_events design clustering worker clocks = map (λ net. Step net) (own_nets design clustering worker)

-- what a worker doesn't know yet of a net is posted and delivered
abbrev pub pass_events : ℕ → ℕ → Clocks → List Event
pass_events worker net clocks =
    if nat_lt (in_clock clocks worker net) (out_clock clocks net)
    then Post net (in_clock clocks worker net) ∷ Deliver worker (length clocks.posts) ∷ []
    else []

-- so it is of each net that the worker reads, by rising number
abbrev pub serve_events : Design → Clustering → ℕ → Clocks → List Event
serve_events design clustering worker =
    in_turn design clustering (λ place. pass_events worker (slice_index (read_nets design clustering worker) place)) (length (read_nets design clustering worker))

-- all workers step, and then each is served
abbrev pub step_events : Design → Clustering → Clocks → List Event
step_events design clustering = in_turn design clustering (sweep_events design clustering) clustering.clusters

abbrev pub exchange_events : Design → Clustering → Clocks → List Event
exchange_events design clustering = in_turn design clustering (serve_events design clustering) clustering.clusters

abbrev pub round_events : Design → Clustering → Clocks → List Event
round_events design clustering clocks =
    let steps = step_events design clustering clocks in
    steps ++ exchange_events design clustering (clocks_after design clustering clocks steps)

-- the clocks after so many rounds from the start
abbrev pub clocks_of_rounds : Design → Clustering → ℕ → Clocks
clocks_of_rounds design clustering many =
    clocks_after design clustering (start design clustering) (in_turn design clustering (λ round. round_events design clustering) many (start design clustering))

-- So many rounds take the machine of clocks from its start to where every net is known up to the horizon, and fewer, but one at least,
-- don't. There are no more of them than ticks.
pub record AreRounds (design : Design) (clustering : Clustering) (many : ℕ) : Type 0 where
  pub few : many ≤ design.horizon
  pub enough : IsComplete design (clocks_of_rounds design clustering many)
  pub least : (fewer : ℕ) → 0 < fewer → fewer < many → IsComplete design (clocks_of_rounds design clustering fewer) → ⊥
