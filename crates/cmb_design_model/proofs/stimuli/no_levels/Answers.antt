use Rattle.std.proofs.Common.{◌≡◌, ◌+◌, ◌∙◌, ◌∷◌, [], ap, sym, subst, arith, length, length-append}
use Rattle.cmb_design_model.specs.declared.row_levels.RowLevels.{RowLevels}
use Rattle.cmb_design_model.specs.Inner.RowLevels.{AreChanges, row_in, rows_of}
use Rattle.cmb_design_model.specs.declared.row_levels.RowLevels.TheVariants.{Changes}
use Rattle.cmb_design_model.proofs.StimulusFacts.{empty-push}
use Rattle.cmb_design_model.proofs.ToldFacts.{no_changes, row_in-none}
use Rattle.cmb_design_model.proofs.stimuli.no_levels.Goals as goal

pub loop-preserved : goal.loop-preserved
loop-preserved c =
    let levels : RowLevels = Changes c.new.result in
    let longer : length c.push.new.self.items ≡ length c.loop.table.items + 1 = ap length c.in_ok-push.ensures.items ∙ length-append c.loop.table.items (levels ∷ []) in (
      omega (arith, longer, c.loop.invariant.0),
      empty-push c.loop.table.items _ levels c.loop.invariant.1 c.in_ok-push.ensures.items (subst (λ list. AreChanges (rows_of list)) (sym c.new.ensures.items) no_changes) (λ tick. ap (λ list. row_in (rows_of list) tick) c.new.ensures.items ∙ row_in-none tick),
    )
