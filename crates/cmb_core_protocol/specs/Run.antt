-- Runs over lists of events, rounds, and when all is done.
use Rattle.std.specs.Prelude.{◌≡◌, ℕ, zero, suc, ◌<◌, ◌≤◌, true, ◌&&◌, nat_lt, List, [], ◌∷◌, length, Result, if◌then◌else◌}
use Rattle.cmb_design_model.specs.Design.{Design}
use Rattle.cmb_design_model.specs.Exact.{nets_of}
use Rattle.cmb_core_protocol.specs.declared.event.Event.{Event}
use Rattle.cmb_core_protocol.specs.declared.event.Event.TheVariants.{Step, Post, Deliver}
use Rattle.cmb_core_protocol.specs.declared.event.Reply.{Reply}
use Rattle.cmb_core_protocol.specs.declared.event.PlayFault.{PlayFault}
use Rattle.cmb_core_cluster.specs.Clustering.{Clustering, has_input}
use Rattle.cmb_core_protocol.specs.Clocks.{Clocks, out_clock, in_clock, machine_reach, start, play}

-- the clocks after a list of events
abbrev pub clocks_after : Design → Clustering → Clocks → List Event → Clocks
clocks_after design clustering clocks [] = clocks
clocks_after design clustering clocks (event ∷ events) =
    clocks_after design clustering (play design clustering clocks event).clocks events

-- the replies to a list of events, refusals among them
abbrev pub replies_to : Design → Clustering → Clocks → List Event → List (Result Reply PlayFault)
replies_to design clustering clocks [] = []
replies_to design clustering clocks (event ∷ events) =
    (play design clustering clocks event).reply ∷ replies_to design clustering (play design clustering clocks event).clocks events

-- the clocks can come about from newly opened clusters
abbrev pub IsReachable : Design → Clustering → Clocks → Type 0
IsReachable design clustering clocks = (events : List Event) × (clocks_after design clustering (start design clustering) events ≡ clocks)

-- every output clock is at the horizon
abbrev pub IsComplete : Design → Clocks → Type 0
IsComplete design clocks = (net : ℕ) → net < nets_of design → out_clock clocks net ≡ design.horizon

-- no step would raise an output clock, and every input clock equals its net's output clock
pub record IsQuiet (design : Design) (clustering : Clustering) (clocks : Clocks) : Type 0 where
  pub no_step : (net : ℕ) → net < nets_of design → machine_reach design clustering clocks net ≤ out_clock clocks net
  pub passed_on : (cluster net : ℕ) → cluster < clustering.clusters → has_input design clustering cluster net ≡ true → in_clock clocks cluster net ≡ out_clock clocks net

-- do this with each of so many numbers, from one on, in order
abbrev pub for_each : (ℕ → Clocks → Clocks) → ℕ → ℕ → Clocks → Clocks
for_each action from zero clocks = clocks
for_each action from (suc many) clocks = for_each action (suc from) many (action from clocks)

-- a net's new piece is posted and delivered to a cluster, where its input clock is below the output clock
abbrev pub pass_on : Design → Clustering → ℕ → ℕ → Clocks → Clocks
pass_on design clustering net cluster clocks =
    if has_input design clustering cluster net && nat_lt (in_clock clocks cluster net) (out_clock clocks net)
    then clocks_after design clustering clocks (Post net (in_clock clocks cluster net) ∷ Deliver cluster (length clocks.posts) ∷ [])
    else clocks

abbrev pub step_each : Design → Clustering → Clocks → Clocks
step_each design clustering clocks =
    for_each (λ net now. (play design clustering now (Step net)).clocks) 0 (nets_of design) clocks

abbrev pub pass_on_each : Design → Clustering → Clocks → Clocks
pass_on_each design clustering clocks =
    for_each (λ net now. for_each (λ cluster later. pass_on design clustering net cluster later) 0 clustering.clusters now) 0 (nets_of design) clocks

-- one step of each net in order, then what is new is passed on, net by net and cluster by cluster
abbrev pub round : Design → Clustering → Clocks → Clocks
round design clustering clocks = pass_on_each design clustering (step_each design clustering clocks)

abbrev pub rounds : Design → Clustering → ℕ → Clocks → Clocks
rounds design clustering zero clocks = clocks
rounds design clustering (suc many) clocks = round design clustering (rounds design clustering many clocks)

-- no clock of the second is less than it was
pub record NotBelow (before after : Clocks) : Type 0 where
  pub outs : (net : ℕ) → out_clock before net ≤ out_clock after net
  pub ins : (cluster net : ℕ) → in_clock before cluster net ≤ in_clock after cluster net

-- all clocks are at or above a tick
pub record AtLeast (design : Design) (clustering : Clustering) (tick : ℕ) (clocks : Clocks) : Type 0 where
  pub outs : (net : ℕ) → net < nets_of design → tick ≤ out_clock clocks net
  pub ins : (cluster net : ℕ) → cluster < clustering.clusters → net < nets_of design → has_input design clustering cluster net ≡ true → tick ≤ in_clock clocks cluster net

-- no clock is above the horizon, and no input clock above its net's output clock
pub record IsWithin (design : Design) (clocks : Clocks) : Type 0 where
  pub outs : (net : ℕ) → out_clock clocks net ≤ design.horizon
  pub ins : (cluster net : ℕ) → in_clock clocks cluster net ≤ out_clock clocks net
