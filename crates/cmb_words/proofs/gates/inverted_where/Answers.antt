use Rattle.cmb_words.proofs.LevelFacts.{inverse_level, inverse_apart}
use Rattle.cmb_words.proofs.gates.inverted_where.Goals as goal

pub invariant_of-result : goal.invariant_of-result
invariant_of-result c = record { apart = λ i small. inverse_apart c.args.a.ones c.args.a.unknown c.args.mask i small }

pub returns : goal.returns
returns c i small = inverse_level c.args.a.ones c.args.a.unknown c.args.mask i small (c.args.a.apart i small)
