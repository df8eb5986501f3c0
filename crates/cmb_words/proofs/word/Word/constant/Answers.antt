use Rattle.cmb_words.proofs.LevelFacts.{all_zero, all_one, all_x}
use Rattle.cmb_words.proofs.word.Word.constant.Goals as goal
use Rattle.cmb_words.proofs.word.Word.constant.Goals.{in-Zero, in-One, in-X}

pub returns : goal.returns
returns c i small =
    elim c.match-level.branch [
      | in-Zero w ↦ rw (w.result-is, w.in-Zero.is) (all_zero i)
      | in-One w ↦ rw (w.result-is, w.in-One.is) (all_one i small)
      | in-X w ↦ rw (w.result-is, w.in-X.is) (all_x i small)
    ]
