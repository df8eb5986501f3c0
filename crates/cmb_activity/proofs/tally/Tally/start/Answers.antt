use Rattle.std.proofs.Common.{◌∙◌, arith}
use Rattle.cmb_wave.specs.declared.level.Level.TheVariants.{Zero, One, X}
use Rattle.cmb_activity.proofs.TallyFacts.{starts}
use Rattle.cmb_activity.proofs.tally.Tally.start.Goals as goal

pub returns-in-Zero : goal.returns-in-Zero
returns-in-Zero c level at = starts level Zero c.args.horizon _ c.requires.some (at ∙ c.in-Zero.is) (omega arith)

pub returns-in-One : goal.returns-in-One
returns-in-One c level at = starts level One c.args.horizon _ c.requires.some (at ∙ c.in-One.is) (omega (arith, c.from.ensures))

pub returns-in-X : goal.returns-in-X
returns-in-X c level at = starts level X c.args.horizon _ c.requires.some (at ∙ c.in-X.is) (omega (arith, c.from-in-X.ensures))
