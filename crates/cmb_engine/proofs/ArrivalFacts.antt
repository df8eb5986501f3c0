-- When samples arrive, and what a flip-flop has between them.
use Rattle.std.proofs.Common.{◌≡◌, ℕ, suc, ◌+◌, ◌-◌, ◌*◌, ◌/◌, ◌%◌, ◌<◌, ◌≤◌, ◌⊎◌, inl, inr, true, false, None, ◌&&◌, nat_le, sym, ap, subst, ◌∙◌, arith, ltb, mod-lt, div-add-mod'}
use Rattle.std.specs.Prelude.{◌==◌}
use Rattle.std.proofs.lemmas.Bool.{lt-ltb, le-ltb, le-leb, leb-true, eqb-true, eq-eqb, and_parts, and_from, cases_lt, false≢true}
use Rattle.std.proofs.lemmas.Nat.{div-mul-add, mod-mul-add}
use Rattle.cmb_wave.specs.declared.level.Level.{Level}
use Rattle.cmb_design_model.specs.declared.rows.Clock.{Clock}
use Rattle.cmb_design_model.specs.Design.{Design}
use Rattle.cmb_design_model.specs.Timing.{clock_of, delay, initial_level, IsSample, last_sample}
use Rattle.cmb_design_model.specs.Value.{flop_level}
use Rattle.cmb_design_model.proofs.AskFacts.{clock_of-positive}
use Rattle.cmb_design_model.proofs.SampleFacts.{delay-positive, last_sample-none, last_sample-some}
use Rattle.cmb_engine.specs.Rows.{arrives, arrives_by}
use Rattle.cmb_engine.specs.Inner.Arrivals.{IsArrival}
use Rattle.cmb_engine.specs.declared.arrivals.Arrival.{Arrival}

-- what an arrival says of flip-flops with its clock and delay
pub arrives-at : (arrival : Arrival) (to first : ℕ) → IsArrival arrival to first → (clock : Clock) (ticks : ℕ) → arrival.clock ≡ clock → arrival.delay ≡ ticks
    → (place : ℕ) → first ≤ place → place < 64
    → arrives_by clock ticks (to + place - 64) ≡ (nat_le arrival.place place && ((place - arrival.place) % clock.period == 0))
arrives-at arrival to first is clock ticks same late place from small =
    subst (λ (clock : Clock). arrives_by clock ticks (to + place - 64) ≡ (nat_le arrival.place place && ((place - arrival.place) % clock.period == 0))) same
    (subst (λ (ticks : ℕ). arrives_by arrival.clock ticks (to + place - 64) ≡ (nat_le arrival.place place && ((place - arrival.place) % arrival.clock.period == 0))) late
    (is.arrives place from small))

pub arrives_parts : (clock : Clock) (ticks tick : ℕ) → arrives_by clock ticks tick ≡ true
    → (clock.first + ticks ≤ tick) × ((tick - (clock.first + ticks)) % clock.period ≡ 0)
arrives_parts clock ticks tick h =
    let parts = and_parts _ _ h in
    (leb-true _ _ parts.0, eqb-true _ _ parts.1)

pub arrives-sample : (clock : Clock) (ticks tick : ℕ) → arrives_by clock ticks tick ≡ true → (ticks ≤ tick) × IsSample clock (tick - ticks)
arrives-sample clock ticks tick h =
    let parts = arrives_parts clock ticks tick h in
    let whole = div-add-mod' (tick - (clock.first + ticks)) clock.period in
    (omega arith, ((tick - (clock.first + ticks)) / clock.period, omega arith))

pub sample-arrives : (clock : Clock) (ticks tick : ℕ) → 1 ≤ clock.period → ticks ≤ tick → IsSample clock (tick - ticks) → arrives_by clock ticks tick ≡ true
sample-arrives clock ticks tick positive late sample =
    let turns : tick - (clock.first + ticks) ≡ sample.0 * clock.period + 0 = omega (arith, sample.1) in
    let none : (tick - (clock.first + ticks)) % clock.period ≡ 0 = ap (λ n. n % clock.period) turns ∙ mod-mul-add sample.0 clock.period 0 positive in
    and_from _ _ (le-leb _ _ (omega (arith, sample.1))) (eq-eqb _ _ none)

-- one more than a number has the same quotient, where it has a remainder
same_turn : (n period : ℕ) → 1 ≤ period → (suc n % period ≡ 0 → ⊥) → n / period ≡ suc n / period
same_turn n period positive some =
    let whole = div-add-mod' (suc n) period in
    let left : suc n % period < period = mod-lt (suc n) positive in
    let e : n ≡ suc n / period * period + (suc n % period - 1) = omega (arith, some) in
    ap (λ m. m / period) e ∙ div-mul-add (suc n / period) period (suc n % period - 1) (omega arith)

module _ (design : Design) (level : ℕ → Level) (net : ℕ) where
  -- below its first arrival a flip-flop has its first level
  flop_level-early : (tick : ℕ) → tick < (clock_of design net).first + delay design net 1 → flop_level design level net tick ≡ initial_level design net
  flop_level-early tick early = go (cases_lt tick (delay design net 1))
    where
      go : (tick < delay design net 1) ⊎ (delay design net 1 ≤ tick) → flop_level design level net tick ≡ initial_level design net
      go (inl l) = let e : ltb tick (delay design net 1) ≡ true = lt-ltb _ _ l in rw e
      go (inr l) =
          let e : ltb tick (delay design net 1) ≡ false = le-ltb _ _ l in
          let none : last_sample (clock_of design net) (tick - delay design net 1) ≡ None = last_sample-none _ _ (omega arith) in
          rw (e, none)

  -- and from there on what its data had at the last sample
  flop_level-late : (tick : ℕ) → (clock_of design net).first + delay design net 1 ≤ tick
      → flop_level design level net tick ≡ level ((clock_of design net).first + (tick - delay design net 1 - (clock_of design net).first) / (clock_of design net).period * (clock_of design net).period)
  flop_level-late tick late =
      let e : ltb tick (delay design net 1) ≡ false = le-ltb _ _ (omega arith) in
      let some = last_sample-some (clock_of design net) (tick - delay design net 1) (omega arith) in
      rw (e, some)

  pub flop_level-start : flop_level design level net 0 ≡ initial_level design net
  flop_level-start = flop_level-early 0 (omega (arith, delay-positive design net 1))

  pub flop_level-takes : (tick : ℕ) → arrives design net tick ≡ true → flop_level design level net tick ≡ level (tick - delay design net 1)
  flop_level-takes tick h =
      let parts = arrives_parts (clock_of design net) (delay design net 1) tick h in
      let whole = div-add-mod' (tick - ((clock_of design net).first + delay design net 1)) (clock_of design net).period in
      let same : tick - delay design net 1 - (clock_of design net).first ≡ tick - ((clock_of design net).first + delay design net 1) = omega arith in
      let turns : (clock_of design net).first + (tick - delay design net 1 - (clock_of design net).first) / (clock_of design net).period * (clock_of design net).period ≡ tick - delay design net 1 = rw same (omega arith) in
      flop_level-late tick parts.0 ∙ ap level turns

  flop_level-after : (tick : ℕ) → (clock_of design net).first + delay design net 1 ≤ suc tick
      → ((suc tick - ((clock_of design net).first + delay design net 1)) % (clock_of design net).period ≡ 0 → ⊥)
      → (tick < (clock_of design net).first + delay design net 1) ⊎ ((clock_of design net).first + delay design net 1 ≤ tick)
      → flop_level design level net (suc tick) ≡ flop_level design level net tick
  flop_level-after tick l some (inl k) =
      let none : suc tick - ((clock_of design net).first + delay design net 1) ≡ 0 * (clock_of design net).period + 0 = omega arith in
      absurd (some (ap (λ n. n % (clock_of design net).period) none ∙ mod-mul-add 0 (clock_of design net).period 0 (clock_of-positive design net)))
  flop_level-after tick l some (inr k) =
      let next : suc tick - delay design net 1 - (clock_of design net).first ≡ suc (tick - delay design net 1 - (clock_of design net).first) = omega arith in
      let shifted : suc tick - ((clock_of design net).first + delay design net 1) ≡ suc (tick - delay design net 1 - (clock_of design net).first) = omega arith in
      let left : suc (tick - delay design net 1 - (clock_of design net).first) % (clock_of design net).period ≡ 0 → ⊥ = λ e. some (ap (λ n. n % (clock_of design net).period) shifted ∙ e) in
      let turn = same_turn (tick - delay design net 1 - (clock_of design net).first) (clock_of design net).period (clock_of-positive design net) left in
      flop_level-late (suc tick) l
      ∙ ap (λ n. level ((clock_of design net).first + n / (clock_of design net).period * (clock_of design net).period)) next
      ∙ ap (λ n. level ((clock_of design net).first + n * (clock_of design net).period)) (sym turn)
      ∙ sym (flop_level-late tick k)

  pub flop_level-holds : (tick : ℕ) → arrives design net (suc tick) ≡ false → flop_level design level net (suc tick) ≡ flop_level design level net tick
  flop_level-holds tick h = go (cases_lt (suc tick) ((clock_of design net).first + delay design net 1))
    where
      go : (suc tick < (clock_of design net).first + delay design net 1) ⊎ ((clock_of design net).first + delay design net 1 ≤ suc tick)
          → flop_level design level net (suc tick) ≡ flop_level design level net tick
      go (inl l) = flop_level-early (suc tick) l ∙ sym (flop_level-early tick (omega arith))
      go (inr l) =
          flop_level-after tick l
          (λ e. false≢true (sym h ∙ and_from _ _ (le-leb _ _ l) (eq-eqb _ _ e)))
          (cases_lt tick ((clock_of design net).first + delay design net 1))
