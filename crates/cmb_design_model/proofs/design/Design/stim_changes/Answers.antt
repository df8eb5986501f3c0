use Rattle.std.proofs.Common.{◌≤◌, ◌∙◌, ap, arith}
use Rattle.cmb_wave.specs.Waveform.{changes_below}
use Rattle.cmb_wave.proofs.Waveforms.{changes_below-changes_between}
use Rattle.cmb_design_model.specs.Timing.{stimulus}
use Rattle.cmb_design_model.proofs.design.Design.stim_changes.Goals as goal

pub returns : goal.returns
returns c =
    let d = c.args.self.now in
    let few : d.horizon ≤ 4294967296 = omega (arith, c.horizon.ensures.lawful.horizon.1) in
    rw (c.told_before.ensures, c.horizon.ensures.value)
    (ap (changes_below d.horizon) c.told.ensures.value ∙ changes_below-changes_between (stimulus d c.args.net) 0 d.horizon 4294967296 (omega arith) few)
