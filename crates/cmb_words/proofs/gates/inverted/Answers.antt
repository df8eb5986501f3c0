use Rattle.cmb_words.proofs.LevelFacts.{not_level, not_apart}
use Rattle.cmb_words.proofs.gates.inverted.Goals as goal

pub invariant_of-result : goal.invariant_of-result
invariant_of-result c = record { apart = λ i small. not_apart c.args.a.ones c.args.a.unknown i small (c.args.a.apart i small) }

pub returns : goal.returns
returns c i small = not_level c.args.a.ones c.args.a.unknown i small (c.args.a.apart i small)
