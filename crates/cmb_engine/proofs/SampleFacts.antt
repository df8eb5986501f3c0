-- The places of a window at which samples arrive.
use Rattle.std.proofs.Common.{◌≡◌, ℕ, suc, ◌+◌, ◌-◌, ◌*◌, ◌/◌, ◌%◌, ◌<◌, ◌≤◌, ◌≢◌, ◌==◌, ◌&&◌, ◌⊎◌, inl, inr, false, sym, ap, ap₂, ◌∙◌, arith, mod-lt, div-add-mod', nat_le}
use Rattle.std.proofs.lemmas.Bool.{le-leb, lt-leb, ne_eqb, cases_lt}
use Rattle.std.proofs.lemmas.Nat.{mod-mul-add}
use Rattle.cmb_design_model.specs.declared.rows.Clock.{Clock}
use Rattle.cmb_engine.specs.Rows.{arrives_by}

-- whole periods more leave the remainder
mod_more : (turns period n : ℕ) → 1 ≤ period → (turns * period + n) % period ≡ n % period
mod_more turns period n positive =
    let split : turns * period + n ≡ (turns + n / period) * period + n % period = omega (arith, div-add-mod' n period) in
    ap (λ m. m % period) split ∙ mod-mul-add (turns + n / period) period (n % period) (mod-lt n positive)

module _ (clock : Clock) (ticks to first place : ℕ) (positive : 1 ≤ clock.period) (inside : 64 ≤ to + first) (from : first ≤ place) where
  -- no sample arrived before the window
  pub arrivals-ahead : to + first - 64 ≤ clock.first + ticks
      → arrives_by clock ticks (to + place - 64) ≡ (nat_le (clock.first + ticks - (to + first - 64) + first) place && ((place - (clock.first + ticks - (to + first - 64) + first)) % clock.period == 0))
  arrivals-ahead ahead =
      let since : to + place - 64 - (clock.first + ticks) ≡ place - (clock.first + ticks - (to + first - 64) + first) = omega arith in
      ap₂ ◌&&◌ (same (cases_lt (to + place - 64) (clock.first + ticks))) (ap (λ n. n % clock.period == 0) since)
    where
      same : (to + place - 64 < clock.first + ticks) ⊎ (clock.first + ticks ≤ to + place - 64)
          → nat_le (clock.first + ticks) (to + place - 64) ≡ nat_le (clock.first + ticks - (to + first - 64) + first) place
      same (inl l) = lt-leb _ _ l ∙ sym (lt-leb _ _ (omega arith))
      same (inr l) = le-leb _ _ l ∙ sym (le-leb _ _ (omega arith))

  -- one arrives at its beginning
  pub arrivals-now : clock.first + ticks ≤ to + first - 64 → (to + first - 64 - (clock.first + ticks)) % clock.period ≡ 0
      → arrives_by clock ticks (to + place - 64) ≡ (nat_le first place && ((place - first) % clock.period == 0))
  arrivals-now behind none =
      let whole = div-add-mod' (to + first - 64 - (clock.first + ticks)) clock.period in
      let since : to + place - 64 - (clock.first + ticks) ≡ (to + first - 64 - (clock.first + ticks)) / clock.period * clock.period + (place - first) = omega arith in
      ap₂ ◌&&◌ (le-leb _ _ (omega arith) ∙ sym (le-leb _ _ from))
      (ap (λ n. n == 0) (ap (λ n. n % clock.period) since ∙ mod_more ((to + first - 64 - (clock.first + ticks)) / clock.period) clock.period (place - first) positive))

  -- or the next one what is left of a period later
  pub arrivals-later : clock.first + ticks ≤ to + first - 64 → (to + first - 64 - (clock.first + ticks)) % clock.period ≢ 0
      → arrives_by clock ticks (to + place - 64)
      ≡ (nat_le (first + (clock.period - (to + first - 64 - (clock.first + ticks)) % clock.period)) place
      && ((place - (first + (clock.period - (to + first - 64 - (clock.first + ticks)) % clock.period))) % clock.period == 0))
  arrivals-later behind some = go (cases_lt place (first + (clock.period - (to + first - 64 - (clock.first + ticks)) % clock.period)))
    where
      go : (place < first + (clock.period - (to + first - 64 - (clock.first + ticks)) % clock.period)) ⊎ (first + (clock.period - (to + first - 64 - (clock.first + ticks)) % clock.period) ≤ place)
          → arrives_by clock ticks (to + place - 64)
          ≡ (nat_le (first + (clock.period - (to + first - 64 - (clock.first + ticks)) % clock.period)) place
          && ((place - (first + (clock.period - (to + first - 64 - (clock.first + ticks)) % clock.period))) % clock.period == 0))
      go (inl l) =
          let whole = div-add-mod' (to + first - 64 - (clock.first + ticks)) clock.period in
          let left = mod-lt (to + first - 64 - (clock.first + ticks)) positive in
          let over = (to + first - 64 - (clock.first + ticks)) % clock.period + (place - first) in
          let since : to + place - 64 - (clock.first + ticks) ≡ (to + first - 64 - (clock.first + ticks)) / clock.period * clock.period + ((to + first - 64 - (clock.first + ticks)) % clock.period + (place - first)) = omega arith in
          let rest : (to + place - 64 - (clock.first + ticks)) % clock.period ≡ (to + first - 64 - (clock.first + ticks)) % clock.period + (place - first) =
          ap (λ n. n % clock.period) since ∙ mod-mul-add ((to + first - 64 - (clock.first + ticks)) / clock.period) clock.period _ (omega arith) in
          let no : ((to + place - 64 - (clock.first + ticks)) % clock.period == 0) ≡ false = ne_eqb _ _ (λ e. some (omega (arith, rest, e))) in
          ap₂ ◌&&◌ (le-leb _ _ (omega arith)) no ∙ sym (ap (λ b. b && ((place - (first + (clock.period - (to + first - 64 - (clock.first + ticks)) % clock.period))) % clock.period == 0)) (lt-leb _ _ l))
      go (inr l) =
          let whole = div-add-mod' (to + first - 64 - (clock.first + ticks)) clock.period in
          let left = mod-lt (to + first - 64 - (clock.first + ticks)) positive in
          let since : to + place - 64 - (clock.first + ticks)
          ≡ suc ((to + first - 64 - (clock.first + ticks)) / clock.period) * clock.period + (place - (first + (clock.period - (to + first - 64 - (clock.first + ticks)) % clock.period))) = omega arith in
          ap₂ ◌&&◌ (le-leb _ _ (omega arith) ∙ sym (le-leb _ _ l))
          (ap (λ n. n == 0) (ap (λ n. n % clock.period) since ∙ mod_more _ clock.period _ positive))
