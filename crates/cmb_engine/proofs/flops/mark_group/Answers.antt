use Rattle.std.proofs.Common.{◌-◌, ◌%◌, ◌==◌, ℕ}
use Rattle.std.proofs.lemmas.List.Elements.{All-contains}
use Rattle.cmb_engine.specs.Inner.Circuits.{IsMarkedOrRests}
use Rattle.cmb_engine.specs.Inner.Orders.{is_marked}
use Rattle.cmb_engine.specs.Inner.Words.{levels_of}
use Rattle.cmb_engine.proofs.GroupFacts.{none-arrives}
use Rattle.cmb_engine.proofs.flops.mark_group.Goals as goal

pub returns-then-arrival-ge64-clause-arrivals : goal.returns-then-arrival-ge64-clause-arrivals
returns-then-arrival-ge64-clause-arrivals c = λ cells is slot place among from small arrives.
    absurd (none-arrives c.args.group.now.clock c.args.group.now.delay c.args.to c.args.first c.first_arrival-arrival.result place
    (λ (p : ℕ). (p - c.first_arrival-arrival.result) % c.args.group.now.clock.period == 0) c.if-arrival-ge64.true small (c.first_arrival-arrival.ensures.arrives place from small) arrives)

pub returns-then-arrival-ge64-clause-closed : goal.returns-then-arrival-ge64-clause-closed
returns-then-arrival-ge64-clause-closed c = λ shut place from small arrives.
    absurd (none-arrives c.args.group.now.clock c.args.group.now.delay c.args.to c.args.first c.first_arrival-arrival.result place
    (λ (p : ℕ). (p - c.first_arrival-arrival.result) % c.args.group.now.clock.period == 0) c.if-arrival-ge64.true small (c.first_arrival-arrival.ensures.arrives place from small) arrives)

pub returns-clause-arrivals : goal.returns-clause-arrivals
returns-clause-arrivals c = λ cells is slot place among from small arrives.
    All-contains (IsMarkedOrRests (is_marked c.args.order.now c.mark_flops.new.marks) (levels_of c.args.words.now) c.args.first cells) c.args.group.now.flops.items slot
    (c.mark_flops.ensures.marked cells is) among

pub returns-clause-closed : goal.returns-clause-closed
returns-clause-closed c = λ shut place from small arrives. c.is_open.ensures shut place from small arrives
