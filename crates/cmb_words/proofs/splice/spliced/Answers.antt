use Rattle.cmb_words.proofs.LevelFacts.{level_by_bits}
use Rattle.cmb_words.proofs.splice.spliced.Goals as goal

pub returns-clause-below : goal.returns-clause-below
returns-clause-below c i below = level_by_bits _ _ i _ _ i (c.cut_over.ensures.low i below) (c.cut_over-2.ensures.low i below)

pub returns-clause-from : goal.returns-clause-from
returns-clause-from c i from small = level_by_bits _ _ i _ _ i (c.cut_over.ensures.high i from small) (c.cut_over-2.ensures.high i from small)
