use Rattle.std.proofs.Common.{◌∙◌, sym, arith}
use Rattle.cmb_words.specs.Word.{level_at_place}
use Rattle.cmb_engine.proofs.ZeroFacts.{start-shows}
use Rattle.cmb_engine.proofs.start.start_word.Goals as goal

pub returns : goal.returns
returns c = λ trace at.
    start-shows trace (level_at_place c.with_from.result)
    (λ place below. c.with_from.ensures.below place below ∙ c.constant.ensures place (omega (arith, below)))
    (c.with_from.ensures.from 63 (omega arith) (omega arith) ∙ sym at)
