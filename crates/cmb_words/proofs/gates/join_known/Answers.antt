use Rattle.std.proofs.Common.{arith}
use Rattle.std.proofs.lemmas.Grind.{common_steps}
use Rattle.cmb_words.proofs.LevelFacts.{and_known, or_known, xor_known}
use Rattle.cmb_words.proofs.gates.join_known.Goals as goal

pub returns-in-And : goal.returns-in-And
returns-in-And c i small first others h =
    grind (and_known c.args.joined c.args.operand i, c.in-And.is, arith, common_steps)

pub returns-in-Or : goal.returns-in-Or
returns-in-Or c i small first others h =
    grind (or_known c.args.joined c.args.operand i, c.in-Or.is, arith, common_steps)

pub returns-in-Xor : goal.returns-in-Xor
returns-in-Xor c i small first others h =
    grind (xor_known c.args.joined c.args.operand i, c.in-Xor.is, arith, common_steps)
