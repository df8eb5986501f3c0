use Rattle.std.proofs.Common.{ℕ, ◌<◌, List, get_or, length, refl, sym, ap, subst, ◌∙◌, arith}
use Rattle.std.proofs.lemmas.List.{get_or_default}
use Rattle.cmb_engine.specs.Inner.Known.{known_levels}
use Rattle.cmb_engine.specs.declared.cell.Pin.{Pin}
use Rattle.cmb_engine.proofs.GroupFacts.{MarksOne, marking-all, marking-more, marks-none, marks-one}
use Rattle.cmb_engine.proofs.flops.mark_known.Goals as goal
use Rattle.cmb_engine.proofs.flops.mark_known.Goals.{then-may_change_known, else-may_change_known}

pub loop-k-preserved : goal.loop-k-preserved
loop-k-preserved c =
    marking-more c.args.order.now (known_levels c.args.ones.now) c.args.first c.args.group.now c.loop-k.k slot net c.args.marks.now c.loop-k.marks c.if-may_change_known.marks
    inside
    (ap (λ (items : List ℕ). get_or items c.loop-k.k 0) c.as_slice-flops.ensures.value ∙ get_or_default c.args.group.now.flops.items c.loop-k.k 0 slot inside)
    (ap (λ (items : List ℕ). get_or items c.loop-k.k 0) c.as_slice-sources.ensures.value ∙ get_or_default c.args.group.now.sources.items c.loop-k.k 0 net (omega (arith, inside, c.requires.group.pairs)))
    c.loop-k.invariant one
  where
    slot : ℕ
    slot = get_or c.as_slice-flops.result.now c.loop-k.k 0

    net : ℕ
    net = get_or c.as_slice-sources.result.now c.loop-k.k 0

    inside : c.loop-k.k < length c.args.group.now.flops.items
    inside = omega (arith, c.loop-k-test.true, ap length c.as_slice-flops.ensures.value)

    pin : Pin
    pin = record { net = net; delay = c.args.group.now.delay }

    one : MarksOne c.args.order.now c.loop-k.marks c.if-may_change_known.marks (known_levels c.args.ones.now) c.args.first slot pin
    one =
        elim c.if-may_change_known.branch [
          | then-may_change_known w ↦
              subst (λ (marks : List ℕ). MarksOne c.args.order.now c.loop-k.marks marks (known_levels c.args.ones.now) c.args.first slot pin) (sym w.marks-is)
              (marks-one c.args.order.now c.loop-k.marks w.mark_flop.new.marks (known_levels c.args.ones.now) c.args.first slot pin _ refl w.mark_flop.ensures.len w.mark_flop.ensures.has)
          | else-may_change_known w ↦
              subst (λ (marks : List ℕ). MarksOne c.args.order.now c.loop-k.marks marks (known_levels c.args.ones.now) c.args.first slot pin) (sym w.marks-is)
              (marks-none c.args.order.now c.loop-k.marks (known_levels c.args.ones.now) c.args.first slot pin (c.may_change_known.ensures w.if-may_change_known.false))
        ]

pub returns-clause-marked : goal.returns-clause-marked
returns-clause-marked c =
    marking-all c.args.order.now (known_levels c.args.ones.now) c.args.first c.args.group.now c.loop-k.k c.args.marks.now c.loop-k.marks
    (omega (arith, c.loop-k-test.false, ap length c.as_slice-flops.ensures.value)) c.loop-k.invariant
