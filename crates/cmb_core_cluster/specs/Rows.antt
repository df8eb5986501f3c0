-- A process, and what it needs of the waves that its cluster has.
use Rattle.std.specs.Prelude.{◌≡◌, ℕ, suc, ◌+◌, ◌-◌, ◌≤◌, ◌<◌, nat_lt, nat_eq, List, [], ◌∷◌, if◌then◌else◌, length, Option, Some, None, option_map, Bool, true, false}
use Rattle.cmb_wave.specs.declared.level.Change.{Change}
use Rattle.cmb_wave.specs.Waveform.{Rises}
use Rattle.cmb_wave.specs.Wave.{Wave}
use Rattle.cmb_core_cluster.specs.declared.process.ProcessPin.{ProcessPin}
use Rattle.cmb_core_cluster.specs.declared.process.ProcessRule.{ProcessRule}
use Rattle.cmb_core_cluster.specs.declared.process.ProcessRule.TheVariants.{Given, Input, Gate, Flop}
use Rattle.cmb_netlist.specs.Netlist.{MayTake}
use Rattle.cmb_design_model.specs.Timing.{sample_upto}
use Rattle.cmb_core_cluster.specs.Step.{wave_at}

-- the place of the first wave of a net
abbrev pub slot_of : List Wave → ℕ → Option ℕ
slot_of [] net = None
slot_of (wave ∷ waves) net = if nat_eq wave.net net then Some 0 else option_map (λ slot. suc slot) (slot_of waves net)

-- an operand's wave is in its place
abbrev pub IsThere : List Wave → ProcessPin → Type 0
IsThere waves o = slot_of waves o.net ≡ Some o.slot

-- an operand's wave is there, and keeps what the output needs from `clock` on
abbrev pub IsReady : List Wave → ℕ → ProcessPin → Type 0
IsReady waves clock o = IsThere waves o × ((wave_at waves o.net).base ≤ clock - o.delay)

abbrev pub AreReady : List Wave → ℕ → List ProcessPin → Type 0
AreReady waves clock [] = Unit {0}
AreReady waves clock (o ∷ os) = IsReady waves clock o × AreReady waves clock os

-- what contracts see of a process
pub record Process : Type 0 where
  pub rule : ProcessRule
  pub operands : List ProcessPin
  -- an input's changes
  pub stimulus : List Change

-- from here on a flip-flop still needs its data, as its output stands at `clock`
abbrev pub sample_need : ℕ → ℕ → ℕ → ℕ → ℕ
sample_need first period delay clock = if nat_lt clock (first + delay) then 0 else sample_upto first period (clock - delay)

-- a process has the operands that it takes, and their waves keep what it still needs
abbrev pub IsReadyFor : List Wave → ℕ → ProcessRule → List ProcessPin → List Change → Type 0
IsReadyFor waves clock Given os cs = Unit {0}
IsReadyFor waves clock Input os cs = Rises 0 cs
IsReadyFor waves clock (Gate kind) os cs = MayTake kind (length os) × AreReady waves clock os
IsReadyFor waves clock (Flop first period init) (o ∷ []) cs =
    (0 < period) × IsThere waves o × ((wave_at waves o.net).base ≤ sample_need first period o.delay clock)
IsReadyFor waves clock (Flop first period init) _ cs = ⊥

-- a net that the cluster doesn't drive
abbrev pub is_given : ProcessRule → Bool
is_given Given = true
is_given _ = false
