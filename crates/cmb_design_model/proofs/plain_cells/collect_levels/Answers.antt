use Rattle.std.proofs.Common.{◌∙◌, sym, ap, ◌++◌, ◌∷◌, [], List}
use Rattle.cmb_wave.specs.declared.level.Level.{Level}
use Rattle.cmb_design_model.specs.Value.{value}
use Rattle.cmb_design_model.proofs.PlainFacts.{pin_levels-more}
use Rattle.cmb_design_model.proofs.plain_cells.collect_levels.Goals as goal

pub loop-i-preserved : goal.loop-i-preserved
loop-i-preserved c =
    c.in_ok-push.ensures.items
    ∙ ap (λ (levels : List Level). levels ++ c.level_on_pin.result ∷ []) c.loop-i.invariant
    ∙ rw c.level_on_pin.ensures (sym (pin_levels-more c.args.design.now (value c.args.design.now) c.args.net c.args.tick c.args.operands.now c.loop-i.i 0 c.loop-i-test.true))
