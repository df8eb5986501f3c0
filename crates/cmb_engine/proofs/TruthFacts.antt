-- Waveforms in places of words.
use Rattle.std.proofs.Common.{◌≡◌, ℕ, ◌+◌, ◌-◌, ◌<◌, ◌≤◌, ◌⊎◌, inl, inr, true, false, ap, arith, ltb}
use Rattle.std.proofs.lemmas.Bool.{lt-ltb, le-ltb, cases_lt}
use Rattle.cmb_wave.specs.declared.level.Level.{Level}
use Rattle.cmb_design_model.specs.Value.{delayed}
use Rattle.cmb_engine.specs.Inner.Windows.{in_place}

pub in_place-tick : (level : ℕ → Level) (to place : ℕ) → 64 ≤ to + place → in_place level to place ≡ level (to + place - 64)
in_place-tick level to place late = let e : ltb (to + place) 64 ≡ false = le-ltb _ _ late in rw e

-- so many places before, a waveform is as late as a pin with that delay sees it
pub in_place-before : (level : ℕ → Level) (to place ticks : ℕ) → 64 ≤ to + place → ticks ≤ place
    → in_place level to (place - ticks) ≡ delayed level ticks (to + place - 64)
in_place-before level to place ticks late within = go (cases_lt (to + (place - ticks)) 64)
  where
    go : (to + (place - ticks) < 64) ⊎ (64 ≤ to + (place - ticks)) → in_place level to (place - ticks) ≡ delayed level ticks (to + place - 64)
    go (inl l) =
        let here : ltb (to + (place - ticks)) 64 ≡ true = lt-ltb _ _ l in
        let there : ltb (to + place - 64) ticks ≡ true = lt-ltb _ _ (omega arith) in
        rw (here, there)
    go (inr l) =
        let here : ltb (to + (place - ticks)) 64 ≡ false = le-ltb _ _ l in
        let there : ltb (to + place - 64) ticks ≡ false = le-ltb _ _ (omega arith) in
        let same : to + (place - ticks) - 64 ≡ to + place - 64 - ticks = omega arith in
        rw (here, there) (ap level same)
