-- What a run begins with.
use Rattle.std.specs.Prelude.{◌≡◌, ◌↔◌, ℕ, ◌+◌, ◌<◌, ◌≤◌, ◌^◌, true, false, Bool, List, Contains, length, map, slice_index, slice_index_or}
use Rattle.cmb_dump.specs.Shown.{IsShown, Subject}
use Rattle.cmb_engine.specs.Crossings.{IsCrossing}
use Rattle.cmb_engine.specs.Shares.{IsDriven, IsGiven, ShareEngine, is_told}
use Rattle.cmb_engine.specs.Windows.{Windows}
use Rattle.cmb_graph_partition.specs.declared.shares.Partition.{Partition}
use Rattle.cmb_graph_partition.specs.declared.shares.Share.{Share}
use Rattle.cmb_shares.specs.Inner.Runs.{IsRun, Run, driven_by, subject_in}
use Rattle.cmb_shares.specs.Inner.Stations.{Covers, Standing}

-- the run of a design's shares
abbrev pub run_of : Subject → Partition → Windows → Run
run_of subject partition windows = record {
  design = subject.design;
  shown = subject.shown;
  owners = partition.owners.items;
  crossing = partition.crossing.items;
  driven = map (λ (s : Share). s.driven.items) partition.shares.items;
  windows = windows;
}

-- an engine of the share of a number, which made nothing yet and tells what is shown of the nets that the share owns
pub record IsEngineOf (subject : Subject) (crossing : List Bool) (owners : List ℕ) (number : ℕ) (driven : List Bool) (engine : ShareEngine) : Type 0 where
  pub engaged : engine.design ≡ subject.design
  pub drives : engine.driven ≡ driven
  pub exports : (net : ℕ) → Contains engine.exports net ↔ (IsDriven driven net × IsCrossing subject.design crossing net)
  pub told : (net : ℕ) → net < length owners → slice_index owners net ≡ number → IsShown subject.shown net → is_told engine.told net ≡ true
  pub begun : engine.clock ≡ 1
  pub some : 2 ≤ engine.width
  pub most : engine.width < 63

-- engines of all shares of a run, from the share of a number on
abbrev pub AreEngines : Run → ℕ → List ShareEngine → Type 0
AreEngines run first engines =
    (k : ℕ) (d : ShareEngine) → k < length engines → IsEngineOf (subject_in run) run.crossing run.owners (first + k) (driven_by run (first + k)) (slice_index_or engines k d)

-- the shares of a run are opened
pub record AreOpened (run : Run) (engines : List ShareEngine) : Type 0 where
  pub lawful : IsRun run
  pub few : length run.driven < 2 ^ 32
  pub count : length engines ≡ length run.driven
  pub each : AreEngines run 0 engines
  pub short : (k : ℕ) (d : ShareEngine) → k < length engines → run.windows.width ≤ (slice_index_or engines k d).width

-- stations stand in the order of their numbers, and made nothing yet
abbrev pub AreStations : List Standing → Type 0
AreStations stations = (k : ℕ) (d : Standing) → k < length stations → ((slice_index_or stations k d).number ≡ k) × ((slice_index_or stations k d).clock ≡ 1)

-- the first stations hear of all that they are given
abbrev pub AreCovered : Run → ℕ → List Standing → Type 0
AreCovered run count stations = (k : ℕ) (d : Standing) → k < count → k < length stations → Covers run k (slice_index_or stations k d).senders

-- each share that owns a net that a share is given is marked
abbrev pub AreFeeders : Run → ℕ → List Bool → Type 0
AreFeeders run number feeders = (net : ℕ) → IsGiven run.design (driven_by run number) net → slice_index_or feeders (slice_index run.owners net) false ≡ true
