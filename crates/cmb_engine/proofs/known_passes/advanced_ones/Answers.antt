use Rattle.cmb_engine.proofs.KnownFacts.{shifted-level}
use Rattle.cmb_engine.proofs.known_passes.advanced_ones.Goals as goal

pub returns : goal.returns
returns c = λ i small. shifted-level c.args.ones c.args.ticks i c.cast_unsigned.result c.cast_signed.result c.ranges.ones.fits small c.cast_signed.ensures c.cast_unsigned.ensures
