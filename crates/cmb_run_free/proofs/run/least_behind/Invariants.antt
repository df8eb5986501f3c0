use Rattle.std.proofs.Common.{◌≡◌, ℕ, ◌<◌}
use Rattle.cmb_run_text.specs.Collector.{wave_of}
use Rattle.cmb_run_free.proofs.run.least_behind.Given as goal

-- the nets that were looked at are known up to the horizon
abbrev pub invariant-loop-wave : goal.invariant-loop-wave
invariant-loop-wave l = (other : ℕ) → other < l.wave-index → (wave_of l.fn.collector.waves other).clock ≡ l.fn.collector.horizon
