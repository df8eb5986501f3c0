use Rattle.std.proofs.Common.{rules}
use Rattle.cmb_words.proofs.LevelFacts.{same_from_test, test_from_same}
use Rattle.cmb_words.proofs.word.Word.differs_from.Goals as goal

pub returns-clause-same : goal.returns-clause-same
returns-clause-same c h =
    same_from_test c.args.self.ones c.args.self.unknown c.args.other.ones c.args.other.unknown c.args.place c.args.self.apart c.args.other.apart h

pub returns-clause-differs : goal.returns-clause-differs
returns-clause-differs c same =
    test_from_same c.args.self.ones c.args.self.unknown c.args.other.ones c.args.other.unknown c.args.place c.args.self.apart c.args.other.apart
    (search rules) (search rules) (search rules) (search rules) same
