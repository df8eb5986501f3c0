use Rattle.cmb_words.proofs.LevelFacts.{delayed_level, delayed_apart}
use Rattle.cmb_words.proofs.word.Word.delayed.Goals as goal

pub invariant_of-result : goal.invariant_of-result
invariant_of-result c = record { apart = λ i small. delayed_apart c.args.self.ones c.args.self.unknown c.args.delay i c.args.self.apart small }

pub returns : goal.returns
returns c i from small = delayed_level c.args.self.ones c.args.self.unknown c.args.delay i from small
