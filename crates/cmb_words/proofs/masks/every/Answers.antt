use Rattle.cmb_words.proofs.PeriodFacts.{first_at, none_at}
use Rattle.cmb_words.proofs.masks.every.Goals as goal

pub returns-then-first-lt64 : goal.returns-then-first-lt64
returns-then-first-lt64 c i small = first_at c.multiples.result c.args.period c.args.first i c.multiples.ensures small

pub returns-else-first-lt64 : goal.returns-else-first-lt64
returns-else-first-lt64 c i small = none_at c.args.period c.args.first i c.if-first-lt64.false small
