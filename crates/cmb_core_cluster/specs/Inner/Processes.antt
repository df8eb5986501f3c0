-- The level that a process has at a tick, and how far it can go on, by the waves that its cluster has.
use Rattle.std.specs.Prelude.{ℕ, ◌+◌, ◌-◌, min, nat_lt, List, [], ◌∷◌, if◌then◌else◌}
use Rattle.cmb_wave.specs.declared.level.Level.{Level}
use Rattle.cmb_wave.specs.declared.level.Level.TheVariants.{X}
use Rattle.cmb_wave.specs.declared.level.Change.{Change}
use Rattle.cmb_wave.specs.Waveform.{level_at}
use Rattle.cmb_wave.specs.Wave.{Wave}
use Rattle.cmb_core_cluster.specs.declared.process.ProcessPin.{ProcessPin}
use Rattle.cmb_core_cluster.specs.declared.process.ProcessRule.{ProcessRule}
use Rattle.cmb_core_cluster.specs.declared.process.ProcessRule.TheVariants.{Given, Input, Gate, Flop}
use Rattle.cmb_netlist.specs.declared.netlist.Kind.{Kind}
use Rattle.cmb_design_model.specs.Gate.{gate}
use Rattle.cmb_design_model.specs.Timing.{sample_from, sample_upto}
use Rattle.cmb_core_cluster.specs.Step.{wave_at}

-- a wave's level, some ticks late: x before it can be known
abbrev pub delayed_wave : Wave → ℕ → ℕ → Level
delayed_wave w delay t = if nat_lt t delay then X else level_at w.kept w.changes (t - delay)

-- the levels that the operands of a gate have for the output's tick `t`
abbrev pub delayed_levels : List Wave → List ProcessPin → ℕ → List Level
delayed_levels waves [] t = []
delayed_levels waves (o ∷ os) t = delayed_wave (wave_at waves o.net) o.delay t ∷ delayed_levels waves os t

-- a wave's level at the last sample that shows at tick `t`: the initial one before there is one
abbrev pub sampled_wave : Wave → ℕ → ℕ → Level → ℕ → ℕ → Level
sampled_wave w first period init delay t =
    if nat_lt t (first + delay) then init
    else level_at w.kept w.changes (sample_upto first period (t - delay))

-- the level that a flip-flop has at tick `t`, by its operand
abbrev pub flop_row : List Wave → ProcessPin → ℕ → ℕ → Level → ℕ → Level
flop_row waves o first period init t = sampled_wave (wave_at waves o.net) first period init o.delay t

-- the level that a gate has at tick `t`
abbrev pub gate_row : Kind → List Wave → List ProcessPin → ℕ → Level
gate_row kind waves os t = gate kind (delayed_levels waves os t)

-- up to here a gate's operands are known at its output
abbrev pub gate_reach : ℕ → List Wave → List ProcessPin → ℕ
gate_reach horizon waves [] = horizon
gate_reach horizon waves (o ∷ os) = min ((wave_at waves o.net).clock + o.delay) (gate_reach horizon waves os)

-- up to here a flip-flop's data is known at its output
abbrev pub flop_reach : ℕ → ℕ → ℕ → ℕ → ℕ → ℕ
flop_reach horizon first period delay known = min (sample_from first period known + delay) horizon

-- the level that a process has at tick `t`
abbrev pub process_level : List Wave → ProcessRule → List ProcessPin → List Change → ℕ → Level
process_level waves Given os cs t = X
process_level waves Input os cs t = level_at X cs t
process_level waves (Gate kind) os cs t = gate_row kind waves os t
process_level waves (Flop first period init) [] cs t = X
process_level waves (Flop first period init) (o ∷ os) cs t = flop_row waves o first period init t

-- up to here a process can go on
abbrev pub process_reach : ℕ → List Wave → ProcessRule → List ProcessPin → ℕ
process_reach horizon waves Given os = 0
process_reach horizon waves Input os = horizon
process_reach horizon waves (Gate kind) os = gate_reach horizon waves os
process_reach horizon waves (Flop first period init) [] = horizon
process_reach horizon waves (Flop first period init) (o ∷ os) = flop_reach horizon first period o.delay (wave_at waves o.net).clock
