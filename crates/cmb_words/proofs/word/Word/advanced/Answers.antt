use Rattle.cmb_words.proofs.LevelFacts.{level_by_bits}
use Rattle.cmb_words.proofs.word.Word.advanced.Goals as goal

pub returns : goal.returns
returns c i small = level_by_bits _ _ i _ _ _ (c.moved_down.ensures i small) (c.moved_down-2.ensures i small)
