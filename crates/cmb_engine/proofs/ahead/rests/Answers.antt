use Rattle.std.proofs.Common.{sym, ◌∙◌, arith}
use Rattle.std.proofs.lemmas.Bool.{not-true}
use Rattle.cmb_engine.proofs.ahead.rests.Goals as goal

pub returns : goal.returns
returns c = λ still place from small.
    sym (c.word_of-input.ensures place) ∙ c.differs_from.ensures.same (not-true _ still) place (omega (arith, from, c.min.ensures)) small
    ∙ c.everywhere-own.ensures place small ∙ c.word_of.ensures 63
