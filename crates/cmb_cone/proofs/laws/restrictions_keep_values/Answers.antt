use Rattle.std.proofs.Common.{◌+◌, arith}
use Rattle.cmb_cone.proofs.ValueFacts.{value-restricted}
use Rattle.cmb_cone.proofs.laws.restrictions_keep_values.Goals as goal

pub returns : goal.returns
returns c design part nets is lawful i tick within = value-restricted design part nets is lawful (tick + 1) tick (omega arith) i within
