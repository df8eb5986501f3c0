use Rattle.std.proofs.Common.{◌∙◌, ap, arith}
use Rattle.cmb_wave.specs.declared.level.Level.TheVariants.{X}
use Rattle.cmb_wave.specs.Waveform.{level_at}
use Rattle.cmb_wave.proofs.Waveforms.{level_at-changes_between}
use Rattle.cmb_design_model.specs.Timing.{stimulus}
use Rattle.cmb_design_model.proofs.design.Design.stim.Goals as goal

pub returns : goal.returns
returns c =
    c.level_told.ensures ∙ ap (λ t. level_at X t c.args.tick) c.told.ensures.value
    ∙ level_at-changes_between (stimulus c.args.self.now c.args.net) 0 4294967296 c.args.tick (omega arith) (omega arith)
