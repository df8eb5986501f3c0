-- A cluster: its processes and the waves that it has, and what a step does to it.
use Rattle.std.specs.Prelude.{◌≡◌, ℕ, suc, ◌<◌, ◌-◌, nat_lt, List, [], ◌∷◌, if◌then◌else◌, length, map, slice_index_or, Option, Some, None, IsSome, Result, Ok, Err, IsOk, Bool, false, ◌==◌}
use Rattle.std.specs.List.{list_all}
use Rattle.cmb_wave.specs.Waveform.{changes_between}
use Rattle.cmb_wave.specs.Wave.{Wave, Piece, new_wave, wave_with_piece}
use Rattle.cmb_netlist.specs.declared.netlist.Driver.{Driver}
use Rattle.cmb_netlist.specs.declared.netlist.Driver.TheVariants.{Input as InputNet, Gate as GateNet, Flop as FlopNet}
use Rattle.cmb_design_model.specs.Design.{Design}
use Rattle.cmb_design_model.specs.Timing.{delay, clock_of, initial_level, stimulus}
use Rattle.cmb_core_cluster.specs.declared.process.ProcessPin.{ProcessPin}
use Rattle.cmb_core_cluster.specs.declared.process.ProcessRule.TheVariants.{Given, Input, Gate, Flop}
use Rattle.cmb_core_cluster.specs.Rows.{Process, IsReadyFor, slot_of, is_given}
use Rattle.cmb_core_cluster.specs.Directory.{driven_among, given_among}
use Rattle.cmb_core_cluster.specs.Step.{wave_at, step_reach, step_piece, with_wave}
use Rattle.cmb_wave.specs.Calls.{taken, hears}
use Rattle.cmb_wave.specs.declared.level.Promise.{Promise}
use Rattle.cmb_wave.specs.declared.level.Heard.{Heard}
use Rattle.cmb_wave.specs.declared.wave.WaveFault.{WaveFault}
use Rattle.cmb_core_cluster.specs.Deliveries.{delivery_fault}
use Rattle.cmb_core_cluster.specs.declared.delivery.Stranger.{Stranger as NoWave}
use Rattle.cmb_core_cluster.specs.declared.delivery.DeliverFault.{DeliverFault}
use Rattle.cmb_core_cluster.specs.declared.delivery.DeliverFault.TheVariants.{Stranger, Memory}

-- what contracts see of a cluster: each wave has its process, which is `Given` for an input wave
pub record Cluster : Type 0 where
  pub horizon : ℕ
  pub processes : List Process
  pub waves : List Wave

-- the process in a place
abbrev pub nth_process : List Process → ℕ → Process
nth_process processes i = slice_index_or processes i (record { rule = Given; operands = []; stimulus = [] })

abbrev pub process_at : Cluster → ℕ → Process
process_at s i = nth_process s.processes i

abbrev pub slot_wave : Cluster → ℕ → Wave
slot_wave s i = slice_index_or s.waves i (new_wave 0)

-- the nets of waves, in order
abbrev pub wave_nets : List Wave → List ℕ
wave_nets waves = map (λ wave. wave.net) waves

-- the waves of the nets that are driven here, and those that the cluster is given
abbrev pub outputs_of : Cluster → List Wave
outputs_of s = driven_among s.processes s.waves

abbrev pub inputs_of : Cluster → List Wave
inputs_of s = given_among s.processes s.waves

-- every net that is driven here is known up to the horizon
abbrev pub is_complete : Cluster → Bool
is_complete s = list_all (λ wave. wave.clock == s.horizon) (outputs_of s)

-- a cluster after a call: the processes and the nets are as they were
pub record IsSameButWaves (old new : Cluster) : Type 0 where
  pub horizon : new.horizon ≡ old.horizon
  pub processes : new.processes ≡ old.processes
  pub nets : wave_nets new.waves ≡ wave_nets old.waves

-- each wave has its process, the operands' waves keep what it still needs, and of a net that is driven here all is kept
pub record IsSound (s : Cluster) : Type 0 where
  pub paired : length s.waves ≡ length s.processes
  pub whole : (i : ℕ) → i < length s.processes → is_given (process_at s i).rule ≡ false → (slot_wave s i).base ≡ 0
  pub ready : (i : ℕ) → i < length s.processes → IsReadyFor s.waves (slot_wave s i).clock (process_at s i).rule (process_at s i).operands (process_at s i).stimulus

-- the operands are the nets on a net's pins, from a pin on, with their delays
abbrev pub AreOperands : Design → ℕ → ℕ → List ℕ → List ProcessPin → Type 0
AreOperands design net pin [] [] = Unit {0}
AreOperands design net pin (source ∷ sources) (o ∷ os) =
    (o.net ≡ source) × (o.delay ≡ delay design net pin) × AreOperands design net (suc pin) sources os
AreOperands design net pin _ _ = ⊥

-- the process is that of a net by its driver
abbrev pub IsDrivenBy : Design → ℕ → Driver → Process → Type 0
IsDrivenBy design net InputNet process =
    (process.rule ≡ Input) × (process.stimulus ≡ changes_between (stimulus design net) 0 design.horizon)
IsDrivenBy design net (GateNet kind sources) process =
    (process.rule ≡ Gate kind) × AreOperands design net 1 sources process.operands
IsDrivenBy design net (FlopNet source) process =
    (process.rule ≡ Flop (clock_of design net).first (clock_of design net).period (initial_level design net)) × AreOperands design net 1 (source ∷ []) process.operands

-- what a step of a net answers, and the waves after it
abbrev pub step_answer : Design → List Wave → Wave → Option Piece
step_answer design waves wave =
    if nat_lt wave.clock (step_reach design waves wave.net) then Some (step_piece design waves wave) else None

abbrev pub step_waves : Design → List Wave → Wave → List Wave
step_waves design waves wave =
    if nat_lt wave.clock (step_reach design waves wave.net) then with_wave waves (wave_with_piece wave (step_piece design waves wave)) else waves

-- the place of the wave of a net that is driven here
abbrev pub driven_only : Cluster → Option ℕ → Option ℕ
driven_only s None = None
driven_only s (Some slot) = if is_given (process_at s slot).rule then None else Some slot

abbrev pub output_slot : Cluster → ℕ → Option ℕ
output_slot s net = driven_only s (slot_of s.waves net)

-- the net is driven here
abbrev pub IsDrivenHere : Cluster → ℕ → Type 0
IsDrivenHere s net = IsSome (output_slot s net)

-- something of the wave of a net, none where it has no place
abbrev pub told_at : {A : Type 0} → (Wave → A) → Cluster → ℕ → Option ℕ → Option A
told_at of s net None = None
told_at of s net (Some slot) = Some (of (wave_at s.waves net))

-- the place of an input wave of a net
abbrev pub given_only : Cluster → Option ℕ → Option ℕ
given_only s None = None
given_only s (Some slot) = if is_given (process_at s slot).rule then Some slot else None

abbrev pub input_slot : Cluster → ℕ → Option ℕ
input_slot s net = given_only s (slot_of s.waves net)

abbrev pub as_delivery : Result Wave WaveFault → Result Wave DeliverFault
as_delivery (Ok wave) = Ok wave
as_delivery (Err fault) = Err (delivery_fault fault)

-- the wave after a delivery, or why it is refused
abbrev pub delivered_at : Cluster → Piece → Option ℕ → Result Wave DeliverFault
delivered_at s piece None = Err Stranger
delivered_at s piece (Some slot) = as_delivery (taken (wave_at s.waves piece.net) piece)

abbrev pub delivered : Cluster → Piece → Result Wave DeliverFault
delivered s piece = delivered_at s piece (input_slot s piece.net)

-- a fault is the one that stands, and want of memory comes where none does
abbrev pub RefusesDelivery : DeliverFault → Result Wave DeliverFault → Type 0
RefusesDelivery Memory result = IsOk result
RefusesDelivery fault result = result ≡ Err fault

-- what a cluster makes of a promise, refused where it has no input wave of the net
abbrev pub heard_at : Cluster → Promise → Option ℕ → Result Heard NoWave
heard_at s promise None = Err (record {})
heard_at s promise (Some slot) = Ok (hears (wave_at s.waves promise.net) promise)
