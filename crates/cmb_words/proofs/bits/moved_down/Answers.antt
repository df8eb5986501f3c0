use Rattle.cmb_words.proofs.BitFacts.{moved}
use Rattle.cmb_words.proofs.bits.moved_down.Goals as goal

pub returns : goal.returns
returns c i small = moved c.args.bits c.filled.result c.args.places i c.ranges.bits.fits small (c.filled.ensures i small)
