use Rattle.std.proofs.Common.{◌≡◌, ◌<◌, ℕ, ◌++◌, drop}
use Rattle.cmb_wave.specs.Waveform.{IsTrace}
use Rattle.cmb_run_text.specs.Collector.{wave_of}
use Rattle.cmb_run_text.specs.Inner.ValueChanges.{all_value_changes, value_changes_in}
use Rattle.cmb_run_text.proofs.value_changes.net_changes_within.Given as goal

abbrev pub invariant-loop-net : goal.invariant-loop-net
invariant-loop-net l = record {
  events : value_changes_in l.parts.items ++ all_value_changes l.from l.to l.net (drop l.net l.waves) ≡ all_value_changes l.from l.to 0 l.waves;
  traces : (net : ℕ) → net < l.net → IsTrace (wave_of l.waves net).kept 0 (wave_of l.waves net).changes (wave_of l.waves net).clock;
}
