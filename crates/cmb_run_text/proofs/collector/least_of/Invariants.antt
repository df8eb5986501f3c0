use Rattle.std.proofs.Common.{◌≡◌, ◌≤◌, drop}
use Rattle.std.specs.Prelude.{min}
use Rattle.cmb_run_text.specs.Collector.{least_clock}
use Rattle.cmb_run_text.proofs.collector.least_of.Given as goal

abbrev pub invariant-loop-wave : goal.invariant-loop-wave
invariant-loop-wave l = (min l.least (least_clock l.horizon (drop l.wave-index l.waves)) ≡ least_clock l.horizon l.waves) × (l.least ≤ l.horizon)
