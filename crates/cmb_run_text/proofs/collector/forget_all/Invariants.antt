use Rattle.std.proofs.Common.{◌≡◌, drop, map, take}
use Rattle.cmb_wave.specs.Wave.{Wave, wave_from}
use Rattle.cmb_run_text.proofs.collector.forget_all.Given as goal

-- the waves up to here forgot, and the others are as they were
abbrev pub invariant-loop-wave : goal.invariant-loop-wave
invariant-loop-wave l = record {
  done : take l.wave-index l.waves ≡ map (λ (wave : Wave). wave_from wave l.upto) (take l.wave-index l.initial.waves);
  rest : drop l.wave-index l.waves ≡ drop l.wave-index l.initial.waves;
}
