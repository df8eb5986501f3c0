use Rattle.std.proofs.Common.{arith}
use Rattle.cmb_engine.proofs.WalkFacts.{ahead-all}
use Rattle.cmb_engine.proofs.walk.Walk.at.Goals as goal

pub invariant_of-result : goal.invariant_of-result
invariant_of-result c = record { walk = record { word_fits = c.requires; place_fits = omega arith; ahead_is = ahead-all } }
