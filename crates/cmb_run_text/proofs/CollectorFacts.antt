-- Clocks of waves, and new waves.
use Rattle.std.proofs.Common.{◌≡◌, ℕ, ◌+◌, ◌≤◌, List, [], ◌∷◌, ◌++◌, length, refl, arith}
use Rattle.std.proofs.lemmas.List.FromFn.{length-map-range_with_len, get_or-map-range_with_len, map-range_with_len_more}
use Rattle.cmb_wave.specs.Wave.{Wave, new_wave}
use Rattle.cmb_run_text.specs.Collector.{AreCollected, AreInPlace, least_clock, new_waves, wave_of}

pub least_clock_bound : (horizon : ℕ) (waves : List Wave) → least_clock horizon waves ≤ horizon
least_clock_bound horizon [] = omega arith
least_clock_bound horizon (wave ∷ waves) = omega (arith, least_clock_bound horizon waves)

pub new_waves_more : (nets : ℕ) → new_waves (nets + 1) ≡ new_waves nets ++ new_wave nets ∷ []
new_waves_more nets = map-range_with_len_more new_wave 0 nets nets (omega arith)

pub new_waves_collected : (horizon nets : ℕ) → AreCollected horizon (new_waves nets)
new_waves_collected horizon nets net h =
    let many : length (new_waves nets) ≡ nets = length-map-range_with_len new_wave 0 nets in
    let here : wave_of (new_waves nets) net ≡ new_wave net = get_or-map-range_with_len new_wave 0 nets net net (new_wave 0) (omega arith) (omega arith) in
    rw here (record { number = refl; base = refl; within = omega arith })

pub collected_in_place : (horizon : ℕ) (waves : List Wave) → AreCollected horizon waves → AreInPlace horizon waves
collected_in_place horizon waves all net h = record { number = (all net h).number; within = (all net h).within }
