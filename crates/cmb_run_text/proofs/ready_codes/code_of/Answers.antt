use Rattle.std.proofs.Common.{arith}
use Rattle.cmb_run_text.proofs.Codes.{code-one, code-three, code-two}
use Rattle.cmb_run_text.proofs.ready_codes.code_of.Goals as goal

pub returns-then-net-lt94 : goal.returns-then-net-lt94
returns-then-net-lt94 c = rw c.digit.ensures (code-one c.args.net c.if-net-lt94.true)

pub returns-then-second-lt94 : goal.returns-then-second-lt94
returns-then-second-lt94 c = rw (c.digit-then-second-lt94.ensures, c.digit-then-second-lt94-2.ensures) (code-two c.args.net c.if-net-lt94.false c.if-second-lt94.true)

pub returns : goal.returns
returns c = rw (c.digit-2.ensures, c.digit-3.ensures, c.digit-4.ensures) (code-three c.args.net c.if-net-lt94.false c.if-second-lt94.false (omega (arith, c.ranges.net.fits)))
