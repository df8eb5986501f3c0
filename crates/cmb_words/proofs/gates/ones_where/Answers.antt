use Rattle.cmb_words.proofs.LevelFacts.{one_level, one_apart}
use Rattle.cmb_words.proofs.gates.ones_where.Goals as goal

pub invariant_of-result : goal.invariant_of-result
invariant_of-result c = record { apart = λ i small. one_apart c.args.a.ones c.args.a.unknown c.args.mask i small (c.args.a.apart i small) }

pub returns : goal.returns
returns c i small = one_level c.args.a.ones c.args.a.unknown c.args.mask i small (c.args.a.apart i small)
