use Rattle.std.proofs.Common.{arith}
use Rattle.cmb_engine.proofs.WalkFacts.{ahead-behind}
use Rattle.cmb_engine.proofs.walk.Walk.behind.Goals as goal

pub invariant_of-result : goal.invariant_of-result
invariant_of-result c = record {
  walk = record { word_fits = c.requires.word; place_fits = omega (arith, c.requires.place); ahead_is = ahead-behind c.args.place c.requires.place };
}
