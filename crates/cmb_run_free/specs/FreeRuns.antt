-- Why a free run has no complete collector, or wrote no whole text.
use Rattle.std.specs.Prelude.{◌≡◌, ℕ, ◌<◌, ◌≤◌, List, Option, Result, IfErr, IfOk, OnOk, length, ⊤}
use Rattle.std.specs.Io.KnownBytes.{Appends}
use Rattle.cmb_design_model.specs.Design.{Design}
use Rattle.cmb_design_model.specs.Value.{value}
use Rattle.cmb_run_text.specs.Beginnings.{HasBegun, IsCutOff}
use Rattle.cmb_run_text.specs.Collector.{Collector, IsExactFor, IsExactFrom, wave_of}
use Rattle.cmb_run_text.specs.Vcd.{part_text, vcd}
use Rattle.cmb_io.specs.declared.sink.Sink as sink
use Rattle.cmb_run_exact.specs.declared.run_fault.RunFault.{RunFault}
use Rattle.cmb_run_exact.specs.declared.run_fault.RunFault.TheVariants.{Incomplete, Write, Memory}

-- the least net that isn't known up to the horizon, and the tick up to which it is
pub record IsLeastBehind (collector : Collector) (net upto : ℕ) : Type 0 where
  pub is_net : net < length collector.waves
  pub clock : (wave_of collector.waves net).clock ≡ upto
  pub behind : upto < collector.horizon
  pub before : (other : ℕ) → other < net → (wave_of collector.waves other).clock ≡ collector.horizon

-- a run that was stopped hands back what it collected
abbrev pub IsStoppedAt : Collector → RunFault → Type 0
IsStoppedAt known (Incomplete net upto collector) = (collector ≡ known) × IsLeastBehind collector net upto
IsStoppedAt known (Write written) = ⊥
IsStoppedAt known Memory = ⊥

-- what was collected is exact; memory may be refused
abbrev pub IsStopped : Design → RunFault → Type 0
IsStopped design (Incomplete net upto collector) = IsExactFor design collector × IsLeastBehind collector net upto
IsStopped design (Write written) = ⊥
IsStopped design Memory = ⊤

-- the sink took the design's text up to a tick, and from that tick on the collector is exact
pub record IsWrittenAndKept (design : Design) (old new : Option (List ℕ)) (collector : Collector) : Type 0 where
  pub done : ℕ
  pub within : done ≤ design.horizon
  pub text : Appends old new (part_text design.netlist.names design.horizon (value design) done)
  pub exact : IsExactFrom design done collector

-- why a text isn't written whole, and that a beginning of it is; where the sink failed that is the answer, before all else
abbrev pub IsCutAt : Design → Option (List ℕ) → Option (List ℕ) → ℕ → ℕ → RunFault → Type 0
IsCutAt design old new before after (Incomplete net upto collector) = HasBegun (vcd design) old new × (after ≡ before) × IsWrittenAndKept design old new collector × IsLeastBehind collector net upto
IsCutAt design old new before after (Write written) = IsCutOff (vcd design) old new before after written
IsCutAt design old new before after Memory = HasBegun (vcd design) old new × (after ≡ before)

-- A sink, as a free run found it and left it, and the text of a design. Where the answer is Ok the sink took the text and nothing
-- else, no write failed, and the text's length is told. Else the sink took a beginning of it, and the answer is why.
pub record IsTextRun {S : Type 0} (s : sink.Ghosts S) (design : Design) (old new : S) (answer : Result ℕ RunFault) : Type 0 where
  pub told : IfOk answer (λ given. given ≡ length (vcd design))
  pub text : OnOk answer (Appends (s.taken old) (s.taken new) (vcd design))
  pub no_failure : OnOk answer (s.failures new ≡ s.failures old)
  pub fault : IfErr answer (IsCutAt design (s.taken old) (s.taken new) (s.failures old) (s.failures new))
