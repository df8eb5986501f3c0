use Rattle.std.proofs.Common.{ap, length, arith}
use Rattle.cmb_engine.proofs.KnownFacts.{known-length}
use Rattle.cmb_engine.proofs.collect.collect_word.Goals as goal

pub collect_known-requires-clause-nets : goal.collect_known-requires-clause-nets
collect_known-requires-clause-nets c = omega (arith, c.requires.nets, ap length c.in-Some.ensures, known-length c.in-Some.ones.now)
