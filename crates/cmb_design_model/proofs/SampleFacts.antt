-- Laws of delays, of sample ticks and of stimuli.
use Rattle.std.proofs.Common.{◌≡◌, ℕ, zero, suc, ◌+◌, ◌-◌, ◌*◌, ◌/◌, ◌<◌, ◌≤◌, true, false, ◌⊎◌, inl, inr, Option, Some, None, refl, ◌∙◌, arith, ltb, subst}
use Rattle.std.proofs.lemmas.Bool.{lt-ltb, le-ltb, cases_lt}
use Rattle.std.proofs.Math.Nat.{mul-le-mul_left}
use Rattle.cmb_wave.specs.declared.level.Level.{Level}
use Rattle.cmb_wave.specs.declared.level.Level.TheVariants.{X}
use Rattle.cmb_design_model.specs.declared.rows.Clock.{Clock}
use Rattle.cmb_design_model.specs.Design.{Design}
use Rattle.cmb_design_model.specs.Timing.{delay, delay_by, IsSample, last_sample, sample_upto, next_sample, level_by}

pub delay-positive : (design : Design) (net pin : ℕ) → 1 ≤ delay design net pin
unfolding delay_by
delay-positive design net pin = omega arith

pub last_sample-none : (clock : Clock) (tick : ℕ) → tick < clock.first → last_sample clock tick ≡ None
unfolding last_sample
last_sample-none clock tick h = let e : ltb tick clock.first ≡ true = lt-ltb tick clock.first h in rw e

pub last_sample-some : (clock : Clock) (tick : ℕ) → clock.first ≤ tick → last_sample clock tick ≡ Some (sample_upto clock.first clock.period tick)
unfolding last_sample
last_sample-some clock tick h = let e : ltb tick clock.first ≡ false = le-ltb tick clock.first h in rw e

pub next_sample-is : (clock : Clock) (tick : ℕ) → IsSample clock (next_sample clock tick)
unfolding next_sample
next_sample-is clock tick = ((tick - clock.first + (clock.period - 1)) / clock.period, refl)

module _ (clock : Clock) (positive : 1 ≤ clock.period) where
  -- it is a sample tick, at most the tick, and no sample tick between is greater
  pub last_sample-is : (tick : ℕ) → clock.first ≤ tick → (sample : ℕ) × (last_sample clock tick ≡ Some sample) × IsSample clock sample × (sample ≤ tick) × ((other : ℕ) → IsSample clock other → other ≤ tick → other ≤ sample)
  last_sample-is tick h =
      (_, last_sample-some clock tick h, ((tick - clock.first) / clock.period, refl), omega arith, λ other is at_most. greatest other is.0 is.1 at_most (cases_lt ((tick - clock.first) / clock.period) is.0))
    where
      greatest : (other k : ℕ) → other ≡ clock.first + k * clock.period → other ≤ tick → ((tick - clock.first) / clock.period < k) ⊎ (k ≤ (tick - clock.first) / clock.period) → other ≤ clock.first + (tick - clock.first) / clock.period * clock.period
      greatest other k is at_most (inl l) = absurd (omega (arith, mul-le-mul_left clock.period l))
      greatest other k is at_most (inr l) = omega (arith, mul-le-mul_left clock.period l)

  pub last_sample-found : (tick sample : ℕ) → last_sample clock tick ≡ Some sample → IsSample clock sample × (sample ≤ tick) × ((other : ℕ) → IsSample clock other → other ≤ tick → other ≤ sample)
  last_sample-found tick sample found = go (cases_lt tick clock.first)
    where
      P : ℕ → Type 0
      P s = IsSample clock s × (s ≤ tick) × ((other : ℕ) → IsSample clock other → other ≤ tick → other ≤ s)

      go : (tick < clock.first) ⊎ (clock.first ≤ tick) → P sample
      go (inl before) = cc (last_sample-none clock tick before, found)
      go (inr since) =
          let last = last_sample-is tick since in
          let same : last.0 ≡ sample = cc (last.1, found) in
          subst P same (last.2, last.3, last.4)

  -- it is a sample tick, at least the tick, and no other such sample tick is less
  pub next_sample-at_least : (tick : ℕ) → tick ≤ next_sample clock tick
  unfolding next_sample
  next_sample-at_least tick = omega arith

  pub next_sample-least : (tick other : ℕ) → IsSample clock other → tick ≤ other → next_sample clock tick ≤ other
  unfolding next_sample
  next_sample-least tick other is at_least = least is.0 is.1 (cases_lt is.0 ((tick - clock.first + (clock.period - 1)) / clock.period))
    where
      least : (k : ℕ) → other ≡ clock.first + k * clock.period → (k < (tick - clock.first + (clock.period - 1)) / clock.period) ⊎ ((tick - clock.first + (clock.period - 1)) / clock.period ≤ k) → clock.first + (tick - clock.first + (clock.period - 1)) / clock.period * clock.period ≤ other
      least k is' (inl l) = absurd (omega (arith, mul-le-mul_left clock.period l))
      least k is' (inr l) = omega (arith, mul-le-mul_left clock.period l)

-- ---- stimuli

-- a row at just this tick decides
pub level_by-at : (row_at : ℕ → Option Level) (tick : ℕ) (level : Level) → row_at tick ≡ Some level → level_by row_at tick ≡ level
unfolding level_by
level_by-at row_at zero level e = rw e
level_by-at row_at (suc tick) level e = rw e

-- where there is no row the level is that of a tick before
level_by-none : (row_at : ℕ → Option Level) (tick : ℕ) → row_at (suc tick) ≡ None → level_by row_at (suc tick) ≡ level_by row_at tick
unfolding level_by
level_by-none row_at tick e = rw e

-- and so it is since the last row
pub level_by-since : (row_at : ℕ → Option Level) (from more : ℕ) → ((tick : ℕ) → from < tick → tick ≤ from + more → row_at tick ≡ None) → level_by row_at (from + more) ≡ level_by row_at from
level_by-since row_at from zero none = let same : from + zero ≡ from = omega arith in rw same
level_by-since row_at from (suc more) none =
    let same : from + suc more ≡ suc (from + more) = omega arith in
    rw same (level_by-none row_at (from + more) (none (suc (from + more)) (omega arith) (omega arith)) ∙ level_by-since row_at from more (λ tick a b. none tick a (omega arith)))

-- before the first row it is x
pub level_by-before : (row_at : ℕ → Option Level) (tick : ℕ) → ((t : ℕ) → t ≤ tick → row_at t ≡ None) → level_by row_at tick ≡ X
unfolding level_by
level_by-before row_at zero none = rw (none zero (omega arith))
level_by-before row_at (suc tick) none = rw (none (suc tick) (omega arith)) (level_by-before row_at tick (λ t h. none t (omega arith)))
