use Rattle.std.proofs.Common.{ap, length, arith}
use Rattle.cmb_engine.proofs.PlaneFacts.{planes-length}
use Rattle.cmb_engine.proofs.words.Words.len.Goals as goal

pub returns : goal.returns
returns c = omega (arith, c.len.ensures, c.self.inside.ones.ok.0, planes-length c.self.inside.ones.items c.self.inside.unknown.items c.self.invariant.same, ap length c.self.view_is)
