use Rattle.std.proofs.Common.{sym, ap, ◌∙◌}
use Rattle.cmb_engine.specs.Inner.Known.{known_planes}
use Rattle.cmb_engine.proofs.PlaneFacts.{planes-known}
use Rattle.cmb_engine.proofs.words.Words.ones_if_known.Goals as goal

pub returns-then-self : goal.returns-then-self
returns-then-self c =
    sym c.self.view_is ∙ planes-known c.self.inside.ones.items c.self.inside.unknown.items c.self.invariant.same (c.self.invariant.clear c.if-self.true)
    ∙ sym (ap known_planes c.deref.ensures.value)
