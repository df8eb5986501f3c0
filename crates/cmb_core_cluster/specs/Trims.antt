-- What input waves may forget.
use Rattle.std.specs.Prelude.{◌≡◌, ℕ, ◌-◌, ◌≤◌, min, nat_lt, List, [], ◌∷◌, length, map, slice_index_or, Result, Ok, Err, if◌then◌else◌}
use Rattle.std.specs.List.{AllByRecursion, range_with_len}
use Rattle.cmb_wave.specs.Waveform.{IsTrace}
use Rattle.cmb_wave.specs.Wave.{Wave, new_wave, wave_from}
use Rattle.cmb_core_cluster.specs.declared.delivery.DeliverFault.{DeliverFault}
use Rattle.cmb_core_cluster.specs.declared.process.ProcessRule.{ProcessRule}
use Rattle.cmb_core_cluster.specs.declared.process.ProcessRule.TheVariants.{Given, Input, Gate, Flop}
use Rattle.cmb_core_cluster.specs.declared.directory.Reader.{Reader}
use Rattle.cmb_core_cluster.specs.Clusters.{Cluster, slot_wave}
use Rattle.cmb_core_cluster.specs.Rows.{Process, sample_need}
use Rattle.cmb_core_cluster.specs.Directory.{given_at, readers_from}

-- from this tick on a process needs what is on a pin with a delay, as its output stands at `clock`
abbrev pub need : ProcessRule → ℕ → ℕ → ℕ
need (Gate kind) delay clock = clock - delay
need (Flop first period init) delay clock = sample_need first period delay clock
need Given delay clock = 0
need Input delay clock = 0

-- the same of a pin, by the place of its process
abbrev pub need_at : List Process → List Wave → Reader → ℕ
need_at processes waves reader =
    need (slice_index_or processes reader.slot (record { rule = Given; operands = []; stimulus = [] })).rule reader.delay (slice_index_or waves reader.slot (new_wave 0)).clock

-- the least need of these pins, at most `most`
abbrev pub least_need : List Process → List Wave → List Reader → ℕ → ℕ
least_need processes waves [] most = most
least_need processes waves (reader ∷ readers) most = least_need processes waves readers (min most (need_at processes waves reader))

-- a wave without what is needed no more; what is forgotten already stays so
abbrev pub trimmed_to : ℕ → Wave → Wave
trimmed_to least wave = if nat_lt wave.base least then wave_from wave least else wave

-- the wave in a place after a trim: a given wave forgets up to the least need of the pins that read it, never beyond its clock
abbrev pub trimmed_wave : Cluster → ℕ → Wave
trimmed_wave s place =
    if given_at s.processes place then trimmed_to (least_need s.processes s.waves (readers_from place 0 s.processes) (slot_wave s place).clock) (slot_wave s place) else slot_wave s place

-- the cluster after a trim
abbrev pub trimmed : Cluster → Cluster
trimmed s = record s { waves = map (trimmed_wave s) (range_with_len 0 (length s.waves)) }

-- ---- clusters that were trimmed

-- the second wave is the first, less what it forgot
abbrev pub IsTrim : Wave → Wave → Type 0
IsTrim wave less = (least : ℕ) × (least ≤ wave.clock) × (less ≡ trimmed_to least wave)

abbrev pub AreTrims : List Wave → List Wave → Type 0
AreTrims [] [] = Unit {0}
AreTrims (wave ∷ waves) (less ∷ lesses) = IsTrim wave less × AreTrims waves lesses
AreTrims _ _ = ⊥

-- the second cluster is the first, less what its waves forgot
pub record IsTrimOf (s less : Cluster) : Type 0 where
  pub horizon : less.horizon ≡ s.horizon
  pub processes : less.processes ≡ s.processes
  pub waves : AreTrims s.waves less.waves

-- both deliveries are refused alike, or the second leaves what the first does, less what was forgotten
abbrev pub AreAlike : Result Wave DeliverFault → Result Wave DeliverFault → Type 0
AreAlike (Ok wave) (Ok less) = IsTrim wave less
AreAlike (Err fault) (Err other) = other ≡ fault
AreAlike _ _ = ⊥

-- what is kept of each wave is a trace, as it is of every wave there is
abbrev pub AreTraces : List Wave → Type 0
AreTraces waves = AllByRecursion (λ wave. IsTrace wave.kept wave.base wave.changes wave.clock) waves
