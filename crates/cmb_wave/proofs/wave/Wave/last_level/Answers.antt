use Rattle.std.proofs.Common.{◌≡◌, drop, arith, sym, ap, ◌∙◌}
use Rattle.std.proofs.lemmas.List.{take_all}
use Rattle.cmb_wave.specs.Waveform.{level_at, level_before, last_level}
use Rattle.cmb_wave.specs.Wave.{Wave}
use Rattle.cmb_wave.proofs.Lists.{last_before}
use Rattle.cmb_wave.proofs.wave.Wave.last_level.Goals as goal

pub returns-clause-before : goal.returns-clause-before
returns-clause-before c =
    let kept : c.changes-changes.result.now ≡ drop c.self.inside.forgotten c.self.inside.changes.items = c.changes-changes.ensures.changes ∙ sym (ap (λ (w : Wave). w.changes) c.self.view_is) in
    c.level_after.ensures
    ∙ ap (last_level c.self.inside.kept) (take_all _ _ (omega arith) ∙ kept)
    ∙ last_before c.self.inside.kept c.self.inside.base c.self.inside.clock _ c.self.invariant.trace c.self.invariant.first
    ∙ ap (λ (w : Wave). level_before (level_at w.kept w.changes) w.clock) c.self.view_is
