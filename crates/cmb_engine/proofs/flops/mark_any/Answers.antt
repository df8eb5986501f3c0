use Rattle.std.proofs.Common.{ℕ, List, sym, subst, arith}
use Rattle.cmb_engine.specs.Inner.Words.{levels_of}
use Rattle.cmb_engine.specs.declared.cell.Pin.{Pin}
use Rattle.cmb_engine.proofs.GroupFacts.{MarksOne, marking-all, marking-more, marks-none, marks-one}
use Rattle.cmb_engine.proofs.flops.mark_any.Goals as goal
use Rattle.cmb_engine.proofs.flops.mark_any.Goals.{then-may_change, else-may_change}

pub loop-k-preserved : goal.loop-k-preserved
loop-k-preserved c =
    marking-more c.args.order.now (levels_of c.args.words.now) c.args.first c.args.group.now c.loop-k.k slot c.index-in-loop-k.result.now c.args.marks.now c.loop-k.marks c.if-may_change.marks
    (omega arith) c.index.ensures c.index-in-loop-k.ensures c.loop-k.invariant one
  where
    slot : ℕ
    slot = c.index.result.now

    pin : Pin
    pin = record { net = c.index-in-loop-k.result.now; delay = c.args.group.now.delay }

    one : MarksOne c.args.order.now c.loop-k.marks c.if-may_change.marks (levels_of c.args.words.now) c.args.first slot pin
    one =
        elim c.if-may_change.branch [
          | then-may_change w ↦
              subst (λ (marks : List ℕ). MarksOne c.args.order.now c.loop-k.marks marks (levels_of c.args.words.now) c.args.first slot pin) (sym w.marks-is)
              (marks-one c.args.order.now c.loop-k.marks w.insert.new.self (levels_of c.args.words.now) c.args.first slot pin w.rank.result w.rank.ensures w.insert.ensures.len w.insert.ensures.has)
          | else-may_change w ↦
              subst (λ (marks : List ℕ). MarksOne c.args.order.now c.loop-k.marks marks (levels_of c.args.words.now) c.args.first slot pin) (sym w.marks-is)
              (marks-none c.args.order.now c.loop-k.marks (levels_of c.args.words.now) c.args.first slot pin (c.may_change.ensures w.if-may_change.false))
        ]

pub returns-clause-marked : goal.returns-clause-marked
returns-clause-marked c = marking-all c.args.order.now (levels_of c.args.words.now) c.args.first c.args.group.now c.loop-k.k c.args.marks.now c.loop-k.marks (omega arith) c.loop-k.invariant
