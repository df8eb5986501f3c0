use Rattle.std.proofs.Common.{sym}
use Rattle.cmb_wave.specs.Waveform.{changes_between}
use Rattle.cmb_design_model.proofs.ValueFacts.{value-at_input}
use Rattle.cmb_design_model.proofs.laws.stimuli_make_changes.Goals as goal

pub returns : goal.returns
returns c design net from to is i = changes_between (λ tick. sym (value-at_input design net tick is) i) from to
