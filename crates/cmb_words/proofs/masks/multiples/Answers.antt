use Rattle.std.proofs.Common.{◌≡◌, true, refl, arith}
use Rattle.cmb_words.specs.Bits.{is_set_at}
use Rattle.cmb_words.specs.declared.masks.TheConstants.{MULTIPLES}
use Rattle.cmb_words.proofs.PeriodFacts.{are_periods, has_periods, periods-at, one_at}
use Rattle.cmb_words.proofs.masks.multiples.Goals as goal

-- the table has the whole periods of each
table-right : are_periods 0 MULTIPLES ≡ true
unfolding are_periods has_periods is_set_at
table-right = refl

pub returns-then-period-lt64 : goal.returns-then-period-lt64
returns-then-period-lt64 c = λ i small. periods-at MULTIPLES 0 c.args.period c.args.period i table-right (omega arith) (omega arith) small

pub returns-else-period-lt64 : goal.returns-else-period-lt64
returns-else-period-lt64 c = λ i small. one_at c.args.period i c.if-period-lt64.false small
