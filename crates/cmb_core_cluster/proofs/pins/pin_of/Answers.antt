use Rattle.std.proofs.Common.{◌≡◌, ◌<◌, ap, arith, sym, ◌∙◌}
use Rattle.cmb_wave.specs.declared.level.Level.TheVariants.{X}
use Rattle.cmb_wave.specs.Wave.{Wave}
use Rattle.cmb_core_cluster.specs.Inner.Processes.{delayed_wave}
use Rattle.cmb_core_cluster.proofs.Skips.{delayed_rest}
use Rattle.cmb_core_cluster.proofs.pins.pin_of.Goals as goal

pub returns : goal.returns
returns c = λ t h.
    let wave : Wave = c.operand_wave-wave.result.now in
    let known : t < c.args.operand.delay → wave.kept ≡ X =
    λ early. let none : wave.base ≡ 0 = omega (arith, early, h, c.requires.1, ap (λ (w : Wave). w.base) c.operand_wave-wave.ensures) in sym c.kept.ensures.kept ∙ c.kept.ensures.first none
    in
    rw (c.left_from-left.ensures.level, c.left_from-left.ensures.changes, c.saturating_sub-reached.ensures, c.kept.ensures.kept, c.changes.ensures.changes)
    (delayed_rest wave.kept wave.changes c.args.clock c.args.operand.delay t h known ∙ ap (λ w. delayed_wave w c.args.operand.delay t) c.operand_wave-wave.ensures)
