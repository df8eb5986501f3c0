-- The clocks of a collector's waves.
use Rattle.std.proofs.Common.{◌≡◌, ℕ, zero, suc, ◌<◌, List, [], ◌∷◌, length, refl, arith}
use Rattle.cmb_wave.specs.Wave.{Wave}
use Rattle.cmb_run_text.specs.Collector.{least_clock, wave_of}

-- where every clock is the horizon, so is the least
pub least_clock-whole : (horizon : ℕ) (waves : List Wave) → ((net : ℕ) → net < length waves → (wave_of waves net).clock ≡ horizon) → least_clock horizon waves ≡ horizon
least_clock-whole horizon [] h = refl
least_clock-whole horizon (wave ∷ waves) h = omega (arith, h zero (omega arith), least_clock-whole horizon waves (λ net below. h (suc net) (omega arith)))
