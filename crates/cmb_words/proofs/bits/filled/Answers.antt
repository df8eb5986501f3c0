use Rattle.cmb_words.proofs.BitFacts.{filled_ones}
use Rattle.cmb_words.proofs.bits.filled.Goals as goal

pub returns-then-bits-place-eq1 : goal.returns-then-bits-place-eq1
returns-then-bits-place-eq1 c i small = filled_ones c.args.bits c.args.place i c.if-bits-place-eq1.true small
