use Rattle.cmb_words.proofs.LevelFacts.{tests_x, tests_one, tests_zero}
use Rattle.cmb_words.proofs.word.Word.level.Goals as goal

pub returns-then-self-place-eq1 : goal.returns-then-self-place-eq1
returns-then-self-place-eq1 c = tests_x _ _ _ c.if-self-place-eq1.true

pub returns-then-self-place-eq1-2 : goal.returns-then-self-place-eq1-2
returns-then-self-place-eq1-2 c = tests_one _ _ _ c.if-self-place-eq1.false c.if-self-place-eq1-2.true

pub returns-else-self-place-eq1-2 : goal.returns-else-self-place-eq1-2
returns-else-self-place-eq1-2 c = tests_zero _ _ _ c.if-self-place-eq1.false c.if-self-place-eq1-2.false
