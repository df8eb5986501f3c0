use Rattle.std.proofs.Common.{ℕ, List, All, length, sym, ap, subst, ◌∙◌}
use Rattle.cmb_engine.specs.Inner.Circuits.{IsGroupWithin, IsMarkedOrRests}
use Rattle.cmb_engine.specs.Inner.Orders.{is_marked}
use Rattle.cmb_engine.specs.Inner.Planes.{Planes}
use Rattle.cmb_engine.specs.Inner.Words.{levels_of}
use Rattle.cmb_engine.proofs.KnownFacts.{known-length}
use Rattle.cmb_engine.proofs.flops.mark_flops.Goals as goal

pub mark_known-requires-clause-group : goal.mark_known-requires-clause-group
mark_known-requires-clause-group c =
    subst (λ (count : ℕ). IsGroupWithin count c.args.first c.args.group.now) (ap length c.in-Some.ensures ∙ known-length c.in-Some.ones.now) c.requires.group

pub mark_known-requires-clause-ranked : goal.mark_known-requires-clause-ranked
mark_known-requires-clause-ranked c = c.requires.ranked ∙ ap length c.in-Some.ensures ∙ known-length c.in-Some.ones.now

pub returns-in-Some-clause-marked : goal.returns-in-Some-clause-marked
returns-in-Some-clause-marked c = λ cells is.
    subst (λ (planes : List Planes). All (IsMarkedOrRests (is_marked c.args.order.now c.mark_known.new.marks) (levels_of planes) c.args.first cells) c.args.group.now.flops.items)
    (sym c.in-Some.ensures) (c.mark_known.ensures.marked cells is)
