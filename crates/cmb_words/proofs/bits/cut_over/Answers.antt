use Rattle.cmb_words.proofs.BitFacts.{cut_low, cut_high}
use Rattle.cmb_words.proofs.bits.cut_over.Goals as goal

pub returns-clause-low : goal.returns-clause-low
returns-clause-low c i below = cut_low c.args.below c.args.above c.args.place i c.requires below

pub returns-clause-high : goal.returns-clause-high
returns-clause-high c i from small = cut_high c.args.below c.args.above c.args.place i from small
