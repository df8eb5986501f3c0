use Rattle.std.proofs.Common.{◌∙◌, arith}
use Rattle.cmb_engine.proofs.KnownFacts.{by-ones}
use Rattle.cmb_engine.proofs.known.spliced_ones.Goals as goal

pub returns-clause-below : goal.returns-clause-below
returns-clause-below c = λ i below.
    by-ones c.spliced.result i c.args.below i (omega (arith, below, c.requires)) (c.spliced.ensures.below i below ∙ c.known.ensures i)

pub returns-clause-from : goal.returns-clause-from
returns-clause-from c = λ i from small. by-ones c.spliced.result i c.args.above i small (c.spliced.ensures.from i from small ∙ c.known-2.ensures i)
