-- The workers of a run in rounds: what each has in its hands, how far it knows its nets, and what an exchange comes to.
use Rattle.std.specs.Prelude.{◌≡◌, ℕ, ◌<◌, ◌≤◌, Bool, false, true, List, [], length, slice_index_or}
use Rattle.cmb_wave.specs.Wave.{Wave}
use Rattle.cmb_netlist.specs.Netlist.{IsNetlist}
use Rattle.cmb_design_model.specs.Design.{Design}
use Rattle.cmb_design_model.specs.Exact.{nets_of}
use Rattle.cmb_core_cluster.specs.Clustering.{Clustering, IsClustering, cluster_of, has_input}
use Rattle.cmb_core_cluster.specs.Clusters.{Cluster, IsSameButWaves}
use Rattle.cmb_core_cluster.specs.Opened.{IsClusterOf, own_nets}
use Rattle.cmb_core_cluster.specs.Step.{wave_at}
use Rattle.cmb_core_cluster.specs.Sweep.{stepped_waves}
use Rattle.cmb_core_protocol.specs.Clocks.{Clocks, out_clock, in_clock}
use Rattle.cmb_core_protocol.specs.Run.{IsReachable}

-- a worker's cluster, and whether it met want of memory in its last round
pub record RoundWorker : Type 0 where
  pub cluster : Cluster
  pub refused : Bool

abbrev pub hand_at : List RoundWorker → ℕ → RoundWorker
hand_at hands worker = slice_index_or hands worker (record { cluster = record { horizon = 0; processes = []; waves = [] }; refused = false })

-- how far a worker knows a net, and how far the one that drives it does
abbrev pub known_to : List RoundWorker → ℕ → ℕ → ℕ
known_to hands worker net = (wave_at (hand_at hands worker).cluster.waves net).clock

abbrev pub known_at_home : Clustering → List RoundWorker → ℕ → ℕ
known_at_home clustering hands net = known_to hands (cluster_of clustering net) net

-- the machine of clocks came to these clocks from its start, and the workers' clocks are the same
pub record AreAt (design : Design) (clustering : Clustering) (clocks : Clocks) (hands : List RoundWorker) : Type 0 where
  pub reached : IsReachable design clustering clocks
  pub outs : (net : ℕ) → net < nets_of design → known_at_home clustering hands net ≡ out_clock clocks net
  pub ins : (worker net : ℕ) → worker < clustering.clusters → has_input design clustering worker net ≡ true → known_to hands worker net ≡ in_clock clocks worker net

-- worker c has cluster c of the design, and some list of events takes the machine of clocks to where the workers are
pub record AreHandsOf (design : Design) (clustering : Clustering) (hands : List RoundWorker) : Type 0 where
  pub netlist : IsNetlist design.netlist
  pub lawful : IsClustering (nets_of design) clustering
  pub count : length hands ≡ clustering.clusters
  pub each : (worker : ℕ) → worker < clustering.clusters → IsClusterOf design clustering worker (hand_at hands worker).cluster
  pub clocks : Clocks
  pub at : AreAt design clustering clocks hands

-- after an exchange every input clock is its net's output clock
abbrev pub IsExchanged : Design → Clustering → List RoundWorker → Type 0
IsExchanged design clustering hands =
    (worker net : ℕ) → worker < clustering.clusters → has_input design clustering worker net ≡ true → known_to hands worker net ≡ known_at_home clustering hands net

-- every output clock, and every input clock, is at a tick at least
pub record AreKnownTo (design : Design) (clustering : Clustering) (tick : ℕ) (hands : List RoundWorker) : Type 0 where
  pub outs : (net : ℕ) → net < nets_of design → tick ≤ known_at_home clustering hands net
  pub ins : (worker net : ℕ) → worker < clustering.clusters → has_input design clustering worker net ≡ true → tick ≤ known_to hands worker net

-- every net is known up to the horizon where it is driven
abbrev pub AreComplete : Design → Clustering → List RoundWorker → Type 0
AreComplete design clustering hands = (net : ℕ) → net < nets_of design → design.horizon ≤ known_at_home clustering hands net

-- one worker knows one net as far as the worker that drives it, and all else is known as far as before
pub record IsPassedOn (clustering : Clustering) (reader net : ℕ) (old new : List RoundWorker) : Type 0 where
  pub met : known_to new reader net ≡ known_at_home clustering old net
  pub others : (worker other : ℕ) → (worker ≡ reader → other ≡ net → ⊥) → known_to new worker other ≡ known_to old worker other

-- one worker knows all its inputs as far as the workers that drive them, and all else is known as far as before
pub record IsServed (design : Design) (clustering : Clustering) (reader : ℕ) (old new : List RoundWorker) : Type 0 where
  pub met : (net : ℕ) → has_input design clustering reader net ≡ true → known_to new reader net ≡ known_at_home clustering new net
  pub others : (worker net : ℕ) → (worker ≡ reader → has_input design clustering reader net ≡ true → ⊥) → known_to new worker net ≡ known_to old worker net

-- each clock is the one that a step of each net of the worker's cluster leaves
abbrev pub IsSwept : Design → Clustering → ℕ → List Wave → List Wave → Type 0
IsSwept design clustering worker old new =
    (net : ℕ) → (wave_at new net).clock ≡ (wave_at (stepped_waves design old (own_nets design clustering worker)) net).clock

-- what a worker's part of a round comes to: where it met no want of memory, each of its nets was stepped
pub record HasWorked (design : Design) (clustering : Clustering) (old new : RoundWorker) : Type 0 where
  pub same : IsSameButWaves old.cluster new.cluster
  pub swept : (worker : ℕ) → IsClusterOf design clustering worker old.cluster → new.refused ≡ false → IsSwept design clustering worker old.cluster.waves new.cluster.waves
