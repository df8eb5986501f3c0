use Rattle.std.proofs.Common.{◌≡◌, ap, arith, ◌∙◌}
use Rattle.cmb_wave.specs.Wave.{Wave}
use Rattle.cmb_wave.specs.Waveform.{level_at}
use Rattle.cmb_core_cluster.specs.Step.{wave_at}
use Rattle.cmb_core_cluster.proofs.Skips.{level_at_rest}
use Rattle.cmb_core_cluster.proofs.pins.operand_left.Goals as goal

pub returns : goal.returns
returns c = λ t h.
    let wave : Wave = c.operand_wave-wave.result.now in
    let at : level_at wave.kept wave.changes t ≡ level_at (wave_at c.args.waves.now c.args.operand.net).kept (wave_at c.args.waves.now c.args.operand.net).changes t = ap (λ (w : Wave). level_at w.kept w.changes t) c.operand_wave-wave.ensures in
    rw (c.left_from.ensures.level, c.left_from.ensures.changes, c.kept.ensures.kept, c.changes.ensures.changes) (level_at_rest c.args.tick wave.kept wave.changes t (omega arith) ∙ at)
