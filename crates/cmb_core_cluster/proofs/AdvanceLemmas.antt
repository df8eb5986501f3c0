-- How far a process goes, and what it makes there.
use Rattle.std.proofs.Common.{◌≡◌, ℕ, ◌+◌, ◌-◌, ◌<◌, ◌≤◌, nat_lt, Bool, cond, not, ◌&&◌, true, false, List, [], ◌∷◌, ◌++◌, refl, sym, ◌∙◌, ap, arith, Result, Ok, Err, IfOk}
use Rattle.cmb_wave.specs.declared.level.Level.{Level}
use Rattle.std.proofs.lemmas.Bool.{le-ltb, lt-ltb}
use Rattle.cmb_wave.specs.Waveform.{last_level, level_at, same_level}
use Rattle.cmb_wave.specs.Wave.{Wave}
use Rattle.cmb_core_cluster.specs.Inner.Spans.{changes_from}
use Rattle.cmb_design_model.specs.Timing.{sample_upto}
use Rattle.cmb_core_cluster.proofs.Changes.{changes_from_held, changes_from_same, changes_from_spans, head}
use Rattle.cmb_core_cluster.specs.declared.process.ProcessPin.{ProcessPin}
use Rattle.cmb_core_cluster.specs.Inner.Processes.{gate_reach, sampled_wave}

pub gate_reach_le : (horizon : ℕ) (waves : List Wave) (os : List ProcessPin) → gate_reach horizon waves os ≤ horizon
gate_reach_le horizon waves [] = omega arith
gate_reach_le horizon waves (o ∷ os) = let rest : gate_reach horizon waves os ≤ horizon = gate_reach_le horizon waves os in omega arith

pub if_ok_map : {T E : Type 0} (r : Result T E) (P Q : T → Type 0) → ((x : T) → P x → Q x) → IfOk r P → IfOk r Q
if_ok_map (Ok x) P Q f h = f x h
if_ok_map (Err e) P Q f h = tt

-- a flip-flop's output from its first sample on
pub sampled_span : (w : Wave) (first period delay : ℕ) (init before : Level) (g : ℕ → Level) (from until : ℕ)
    → ((t : ℕ) → from ≤ t → first + delay ≤ t → g t ≡ level_at w.kept w.changes (sample_upto first period (t - delay)))
    → from ≤ until → (from < until → first + delay ≤ from)
    → changes_from g before from (until - from) ≡ changes_from (sampled_wave w first period init delay) before from (until - from)
sampled_span w first period delay init before g from until after order begun =
    changes_from_same _ _ before from (until - from) (λ t low high.
    let some : from < until = omega (arith, low, high) in
    let known : first + delay ≤ t = omega (arith, begun some, low) in
    let test : nat_lt t (first + delay) ≡ false = le-ltb t (first + delay) known in
    rw test (after t low known))

-- the level that a held output ends with
pub held_ends : (b : Bool) (tick : ℕ) (level before : Level) → last_level before (cond b (head tick level) []) ≡ cond b level before
held_ends true tick level before = refl
held_ends false tick level before = refl

-- its output: the first level up to the first sample, and what was sampled from there on
pub flop_halves : (w : Wave) (first period delay : ℕ) (init before last : Level) (from middle until : ℕ)
    → from ≤ middle → middle ≤ until → middle ≤ first + delay
    → last ≡ cond (nat_lt from middle && not (same_level init before)) init before
    → changes_from (λ t. init) before from (middle - from) ++ changes_from (sampled_wave w first period init delay) last middle (until - middle) ≡ changes_from (sampled_wave w first period init delay) before from (until - from)
flop_halves w first period delay init before last from middle until a b early ends =
    let held = changes_from_held (λ t. init) before init from middle a (λ t h. refl) in
    let left : last ≡ last_level before (changes_from (λ t. init) before from (middle - from)) =
    ends ∙ sym (ap (last_level before) held ∙ held_ends (nat_lt from middle && not (same_level init before)) from init before)
    in
    let same : (t : ℕ) → from ≤ t → t < middle → init ≡ sampled_wave w first period init delay t =
    λ t low high.
    let test : nat_lt t (first + delay) ≡ true = lt-ltb t (first + delay) (omega (arith, high)) in
    rw test refl
    in
    rw left (changes_from_spans (sampled_wave w first period init delay) (λ t. init) (sampled_wave w first period init delay) before from middle until a b same (λ t low high. refl))
