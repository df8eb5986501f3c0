use Rattle.cmb_words.proofs.LevelFacts.{changes_below, changes_at}
use Rattle.cmb_words.proofs.word.Word.changes_from.Goals as goal

pub returns-clause-below : goal.returns-clause-below
returns-clause-below c i below = changes_below c.args.self.ones c.args.self.unknown c.args.place i c.requires.most below

pub returns-clause-from : goal.returns-clause-from
returns-clause-from c i from small =
    changes_at c.args.self.ones c.args.self.unknown c.args.place i c.args.self.apart c.requires.least from small
