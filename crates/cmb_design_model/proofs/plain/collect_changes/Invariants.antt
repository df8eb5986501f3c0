use Rattle.std.proofs.Common.{◌≡◌}
use Rattle.cmb_wave.specs.Waveform.{level_before}
use Rattle.cmb_design_model.specs.Value.{changes, value}
use Rattle.cmb_design_model.proofs.plain.collect_changes.Given as goal

abbrev pub invariant-loop-tick : goal.invariant-loop-tick
invariant-loop-tick l = record {
  changes : l.changes.items ≡ changes l.design l.net 0 l.tick;
  before : l.before ≡ level_before (value l.design l.net) l.tick;
}
