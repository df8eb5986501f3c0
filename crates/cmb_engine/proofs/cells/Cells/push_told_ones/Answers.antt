use Rattle.std.proofs.Common.{List, [], ◌∷◌, ◌++◌, append_assoc, ap, ◌∙◌}
use Rattle.std.specs.Prelude.{replicate}
use Rattle.std.proofs.lemmas.List.{replicate_more}
use Rattle.cmb_engine.specs.Inner.Cells.{Cell, Told}
use Rattle.cmb_engine.proofs.cells.Cells.push_told_ones.Goals as goal

pub loop-preserved : goal.loop-preserved
loop-preserved c =
    c.in_ok-push_told.ensures
    ∙ ap (λ (cells : List Cell). cells ++ Told ∷ []) c.loop.invariant
    ∙ append_assoc c.args.self.now (replicate c.loop.counter Told) (Told ∷ [])
    ∙ ap (λ (cells : List Cell). c.args.self.now ++ cells) (replicate_more c.loop.counter Told)
