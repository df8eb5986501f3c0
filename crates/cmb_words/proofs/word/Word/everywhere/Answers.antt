use Rattle.cmb_words.proofs.LevelFacts.{level_by_bits}
use Rattle.cmb_words.proofs.word.Word.everywhere.Goals as goal

pub returns : goal.returns
returns c i small = level_by_bits _ _ i _ _ _ (c.filled.ensures i small) (c.filled-2.ensures i small)
