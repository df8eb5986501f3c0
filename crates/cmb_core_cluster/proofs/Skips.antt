-- What has reached the output is what the wave says at the tick that the output looks at.
use Rattle.std.proofs.Common.{◌≡◌, ℕ, suc, ◌+◌, ◌-◌, ◌*◌, ◌/◌, ◌<◌, ◌≤◌, max, true, false, nat_le, nat_lt, List, [], ◌∷◌, take, drop, if◌then◌else◌, refl, ◌∙◌, arith}
use Rattle.std.proofs.lemmas.Bool.{le-leb, le-ltb, ltb-false, ltb-true}
use Rattle.std.proofs.lemmas.Bool.Decides.{nat_tests}
use Rattle.std.proofs.Math.Nat.{mul-le-mul_right, lt_of_mul-lt-mul_right, lt-div-mul-add, div-mul-le_self}
use Rattle.cmb_wave.specs.declared.level.Level.{Level}
use Rattle.cmb_wave.specs.declared.level.Level.TheVariants.{X}
use Rattle.cmb_wave.specs.declared.level.Change.{Change}
use Rattle.cmb_wave.specs.Waveform.{level_at, last_level, below}
use Rattle.cmb_core_cluster.specs.declared.merge.Lag.TheVariants.{Delay, Sampled}
use Rattle.cmb_core_cluster.specs.Inner.Arrivals.{arrived}
use Rattle.cmb_design_model.specs.Timing.{sample_from, sample_upto}

-- dropping changes that stand below a tick leaves the levels from there on
pub level_at_rest : (cut : ℕ) (kept : Level) (cs : List Change) (t : ℕ) → cut ≤ suc t → level_at (last_level kept (take (below cut cs) cs)) (drop (below cut cs) cs) t ≡ level_at kept cs t
level_at_rest cut kept [] t h = refl
level_at_rest cut kept (c ∷ cs) t h =
    elim (nat_lt c.tick cut) as (λ b. nat_lt c.tick cut ≡ b → level_at (last_level kept (take (if b then suc (below cut cs) else 0) (c ∷ cs))) (drop (if b then suc (below cut cs) else 0) (c ∷ cs)) t ≡ level_at kept (c ∷ cs) t) [
      | true ↦ λ e.
          let passed : nat_le c.tick t ≡ true = le-leb c.tick t (omega (arith, ltb-true c.tick cut e)) in
          rw passed (level_at_rest cut c.level cs t h)
      | false ↦ λ e. refl
    ] refl

pub arrived_delay : (delay : ℕ) (level : Level) (cs : List Change) (t : ℕ) → delay ≤ t → arrived (Delay delay) level cs t ≡ level_at level cs (t - delay)
arrived_delay delay level [] t h = refl
arrived_delay delay level (c ∷ cs) t h =
    let same : nat_le (c.tick + delay) t ≡ nat_le c.tick (t - delay) = grind (arith, nat_tests) in
    rw (same, arrived_delay delay c.level cs t h) refl

pub arrived_early : (delay : ℕ) (level : Level) (cs : List Change) (t : ℕ) → t < delay → arrived (Delay delay) level cs t ≡ level
arrived_early delay level [] t h = refl
arrived_early delay level (c ∷ cs) t h = let e : nat_le (c.tick + delay) t ≡ false = grind (arith, nat_tests) in rw e refl

below_zero : (cs : List Change) → below 0 cs ≡ 0
below_zero [] = refl
below_zero (c ∷ cs) = let e : nat_lt c.tick 0 ≡ false = le-ltb c.tick 0 (omega arith) in rw e refl

-- the pin of a gate, as its step begins
pub delayed_rest : (kept : Level) (cs : List Change) (clock delay t : ℕ) → clock ≤ t → (t < delay → kept ≡ X) →
    arrived (Delay delay) (last_level kept (take (below (clock - delay) cs) cs)) (drop (below (clock - delay) cs) cs) t
    ≡ (if nat_lt t delay then X else level_at kept cs (t - delay))
delayed_rest kept cs clock delay t h k =
    elim (nat_lt t delay) as (λ b. nat_lt t delay ≡ b → arrived (Delay delay) (last_level kept (take (below (clock - delay) cs) cs)) (drop (below (clock - delay) cs) cs) t ≡ (if b then X else level_at kept cs (t - delay))) [
      | true ↦ λ e.
          let early : t < delay = ltb-true t delay e in
          let start : clock - delay ≡ 0 = omega arith in
          rw (start, below_zero cs, arrived_early delay kept cs t early) (k early)
      | false ↦ λ e.
          let late : delay ≤ t = ltb-false t delay e in
          arrived_delay delay (last_level kept (take (below (clock - delay) cs) cs)) (drop (below (clock - delay) cs) cs) t late ∙ level_at_rest (clock - delay) kept cs (t - delay) (omega arith)
    ] refl

-- a change at `c` has been sampled by `s` exactly where it isn't after the last sample then
pub multiples : (n q p : ℕ) → n * p < q * p + p → n * p ≤ q * p
multiples n q p h = let e : (q + 1) * p ≡ q * p + p = grind arith in let less : n < q + 1 = lt_of_mul-lt-mul_right p (omega arith) in mul-le-mul_right p (omega arith)

sampled_le : (first period c s : ℕ) → 0 < period → first ≤ s → sample_from first period c ≤ s → c ≤ sample_upto first period s
sampled_le first period c s pos begun h =
    let up : c - first + (period - 1) < (c - first + (period - 1)) / period * period + period = lt-div-mul-add pos in
    let high : s - first < (s - first) / period * period + period = lt-div-mul-add pos in
    let same : (c - first + (period - 1)) / period * period ≤ (s - first) / period * period = multiples _ _ period (omega arith) in
    omega arith

pub le_sampled : (first period c s : ℕ) → 0 < period → first ≤ s → c ≤ sample_upto first period s → sample_from first period c ≤ s
le_sampled first period c s pos begun h =
    let down : (c - first + (period - 1)) / period * period ≤ c - first + (period - 1) = div-mul-le_self _ period in
    let low : (s - first) / period * period ≤ s - first = div-mul-le_self _ period in
    let same : (c - first + (period - 1)) / period * period ≤ (s - first) / period * period = multiples _ _ period (omega arith) in
    omega arith

same_tests : (a b c d : ℕ) → (a ≤ b → c ≤ d) → (c ≤ d → a ≤ b) → nat_le a b ≡ nat_le c d
same_tests a b c d h k = grind (arith, nat_tests)

pub arrived_sampled : (first period delay : ℕ) (level : Level) (cs : List Change) (t : ℕ) → 0 < period → first + delay ≤ t → arrived (Sampled first period delay) level cs t ≡ level_at level cs (sample_upto first period (t - delay))
arrived_sampled first period delay level [] t pos h = refl
arrived_sampled first period delay level (c ∷ cs) t pos h =
    let one : max period 1 ≡ period = omega arith in
    let there : sample_from first period c.tick + delay ≤ t → c.tick ≤ sample_upto first period (t - delay) =
    λ k. sampled_le first period c.tick (t - delay) pos (omega arith) (omega arith)
    in
    let back : c.tick ≤ sample_upto first period (t - delay) → sample_from first period c.tick + delay ≤ t =
    λ k. let by : sample_from first period c.tick ≤ t - delay = le_sampled first period c.tick (t - delay) pos (omega arith) k in omega arith
    in
    let same : nat_le (sample_from first period c.tick + delay) t ≡ nat_le c.tick (sample_upto first period (t - delay)) = same_tests _ _ _ _ there back in
    rw (one, same, arrived_sampled first period delay c.level cs t pos h) refl

-- a later tick has no earlier sample before it
pub sample_upto_le : (first period s t : ℕ) → 0 < period → s ≤ t → sample_upto first period s ≤ sample_upto first period t
sample_upto_le first period s t pos h =
    let low : (s - first) / period * period ≤ s - first = div-mul-le_self _ period in
    let high : t - first < (t - first) / period * period + period = lt-div-mul-add pos in
    let products : (s - first) / period * period ≤ (t - first) / period * period = multiples _ _ period (omega arith) in
    omega arith

-- the pin of an input, as its step begins
pub stimulus_rest : (cs : List Change) (from t : ℕ) → from ≤ t → arrived (Delay 0) (last_level X (take (below from cs) cs)) (drop (below from cs) cs) t ≡ level_at X cs t
stimulus_rest cs from t h =
    let e : t - 0 ≡ t = omega arith in
    (rw e at (arrived_delay 0 (last_level X (take (below from cs) cs)) (drop (below from cs) cs) t (omega arith))) ∙ level_at_rest from X cs t (omega arith)
