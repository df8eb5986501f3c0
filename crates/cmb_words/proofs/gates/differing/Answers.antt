use Rattle.cmb_words.proofs.LevelFacts.{xor_level, xor_apart}
use Rattle.cmb_words.proofs.gates.differing.Goals as goal

pub invariant_of-result : goal.invariant_of-result
invariant_of-result c = record { apart = λ i small. xor_apart c.args.a.ones c.args.a.unknown c.args.b.ones c.args.b.unknown i }

pub returns : goal.returns
returns c i small = xor_level c.args.a.ones c.args.a.unknown c.args.b.ones c.args.b.unknown i (c.args.a.apart i small) (c.args.b.apart i small)
