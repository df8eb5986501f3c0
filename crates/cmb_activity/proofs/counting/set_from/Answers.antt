use Rattle.std.proofs.Common.{◌-◌, ◌*◌, ◌%◌, ◌^◌, arith}
use Rattle.std.proofs.lemmas.Nat.{and_le_l}
use Rattle.cmb_activity.proofs.OnesFacts.{few, masked_ones}
use Rattle.cmb_activity.proofs.counting.set_from.Goals as goal

pub returns-clause-value : goal.returns-clause-value
returns-clause-value c =
    masked_ones c.args.bits c.args.place c.requires (omega (arith, and_le_l c.args.bits ((2 ^ 64 - 1) * 2 ^ c.args.place % 2 ^ 64), c.ranges.bits.fits))

pub returns-clause-few : goal.returns-clause-few
returns-clause-few c = omega (arith, few c.args.bits c.args.place (64 - c.args.place), returns-clause-value c)
