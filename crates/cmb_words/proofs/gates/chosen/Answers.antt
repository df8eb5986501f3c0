use Rattle.cmb_words.proofs.LevelFacts.{chosen_level, chosen_apart}
use Rattle.cmb_words.proofs.gates.chosen.Goals as goal

pub invariant_of-result : goal.invariant_of-result
invariant_of-result c = record { apart = λ i small. chosen_apart c.args.a.ones c.args.a.unknown c.args.b.ones c.args.b.unknown c.args.mask i (c.args.a.apart i small) (c.args.b.apart i small) }

pub returns : goal.returns
returns c i small = chosen_level c.args.a.ones c.args.a.unknown c.args.b.ones c.args.b.unknown c.args.mask i
