-- What is collected of a run: one wave a net, and the text that these waves make.
use Rattle.std.specs.Prelude.{◌≡◌, ℕ, ◌<◌, ◌≤◌, nat_lt, List, [], ◌∷◌, length, map, min, if◌then◌else◌, slice_index_or, slice_set, Result, Ok, Err, IsOk}
use Rattle.std.specs.List.{range_with_len}
use Rattle.cmb_wave.specs.declared.level.Level.{Level}
use Rattle.cmb_wave.specs.declared.wave.WaveFault.{WaveFault}
use Rattle.cmb_wave.specs.Waveform.{level_at}
use Rattle.cmb_wave.specs.Wave.{Piece, Wave, IsExactWave, new_wave, wave_from}
use Rattle.cmb_wave.specs.Calls.{taken}
use Rattle.cmb_design_model.specs.Design.{Design}
use Rattle.cmb_design_model.specs.Exact.{nets_of}
use Rattle.cmb_design_model.specs.Value.{value}
use Rattle.cmb_run_text.specs.declared.fault.CollectFault.{CollectFault}
use Rattle.cmb_run_text.specs.declared.fault.CollectFault.TheVariants.{Stranger, Memory}
use Rattle.cmb_run_text.specs.Faults.{collect_fault}

-- a wave for each net, and the tick up to which they can be known
pub record Collector : Type 0 where
  pub waves : List Wave
  pub horizon : ℕ

-- the waves of so many nets, of which nothing is known
abbrev pub new_waves : ℕ → List Wave
new_waves nets = map new_wave (range_with_len 0 nets)

abbrev pub new_collector : Design → Collector
new_collector design = record { waves = new_waves (nets_of design); horizon = design.horizon }

-- a net's wave; of a number that is no net's nothing is known
abbrev pub wave_of : List Wave → ℕ → Wave
wave_of waves net = slice_index_or waves net (new_wave 0)

-- the level of a net at a tick, as its wave tells it
abbrev pub collected_level : List Wave → ℕ → ℕ → Level
collected_level waves net = level_at (wave_of waves net).kept (wave_of waves net).changes

-- the least clock of these waves, and no more than the horizon
abbrev pub least_clock : ℕ → List Wave → ℕ
least_clock horizon [] = horizon
least_clock horizon (wave ∷ waves) = min wave.clock (least_clock horizon waves)

abbrev pub least : Collector → ℕ
least collector = least_clock collector.horizon collector.waves

abbrev pub IsComplete : Collector → Type 0
IsComplete collector = least collector ≡ collector.horizon

-- a wave stands in its net's place, and ends by the horizon
pub record IsInPlace (horizon net : ℕ) (wave : Wave) : Type 0 where
  pub number : wave.net ≡ net
  pub within : wave.clock ≤ horizon

abbrev pub AreInPlace : ℕ → List Wave → Type 0
AreInPlace horizon waves = (net : ℕ) → net < length waves → IsInPlace horizon net (wave_of waves net)

-- no change at this tick or later is forgotten
abbrev pub AreKeptFrom : ℕ → List Wave → Type 0
AreKeptFrom from waves = (net : ℕ) → net < length waves → (wave_of waves net).base ≤ from

-- a wave stands in its net's place, has forgotten nothing, and ends by the horizon
pub record IsCollected (horizon net : ℕ) (wave : Wave) : Type 0 where
  pub number : wave.net ≡ net
  pub base : wave.base ≡ 0
  pub within : wave.clock ≤ horizon

abbrev pub AreCollected : ℕ → List Wave → Type 0
AreCollected horizon waves = (net : ℕ) → net < length waves → IsCollected horizon net (wave_of waves net)

-- ---- taking a piece

-- the collector with what a net's wave became, or why it didn't
abbrev pub with_wave : Collector → ℕ → Result Wave WaveFault → Result Collector CollectFault
with_wave collector net (Ok wave) = Ok (record collector { waves = slice_set collector.waves net wave })
with_wave collector net (Err fault) = Err (collect_fault fault)

-- the collector after it took a piece, or why it doesn't: its net's wave takes the piece
abbrev pub collected : Collector → Piece → Result Collector CollectFault
collected collector piece =
    if nat_lt piece.net (length collector.waves) then with_wave collector piece.net (taken (wave_of collector.waves piece.net) piece)
    else Err Stranger

-- a fault is the one that stands, and want of memory comes where none does
abbrev pub RefusesAs : CollectFault → Result Collector CollectFault → Type 0
RefusesAs Memory result = IsOk result
RefusesAs fault result = result ≡ Err fault

-- ---- taking a wave over

-- the collector after it took a wave over: it stands in the place of its net's, where it is known further
abbrev pub adopted : Collector → Wave → Collector
adopted collector wave =
    if nat_lt (wave_of collector.waves wave.net).clock wave.clock then record collector { waves = slice_set collector.waves wave.net wave }
    else collector

-- ---- forgetting

-- the collector after its waves forgot their changes below a tick
abbrev pub forgot : Collector → ℕ → Collector
forgot collector upto = record collector { waves = map (λ wave. wave_from wave upto) collector.waves }

-- ---- exactness

-- the collector has a wave for each net of the design, and its horizon
pub record IsFor (design : Design) (collector : Collector) : Type 0 where
  pub nets : length collector.waves ≡ nets_of design
  pub horizon : collector.horizon ≡ design.horizon

-- each wave is its net's defined waveform up to its clock, from tick 0 on
pub record IsExactFor (design : Design) (collector : Collector) : Type 0 where
  pub opened : IsFor design collector
  pub collected : AreCollected design.horizon collector.waves
  pub exact : (net : ℕ) → net < nets_of design → IsExactWave (value design net) design.horizon (wave_of collector.waves net)

-- each wave is its net's defined waveform up to its clock, from this tick on at least
pub record IsExactFrom (design : Design) (from : ℕ) (collector : Collector) : Type 0 where
  pub opened : IsFor design collector
  pub placed : AreInPlace design.horizon collector.waves
  pub kept : AreKeptFrom from collector.waves
  pub exact : (net : ℕ) → net < nets_of design → IsExactWave (value design net) design.horizon (wave_of collector.waves net)
