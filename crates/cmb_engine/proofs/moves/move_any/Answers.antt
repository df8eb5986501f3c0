use Rattle.std.proofs.Common.{◌≡◌, ◌+◌, ◌∙◌, inl, refl, sym, arith, length}
use Rattle.cmb_words.specs.Bits.{places_set}
use Rattle.cmb_engine.specs.Inner.Cells.{IsSteadyFrom, readers_at}
use Rattle.cmb_engine.specs.Inner.Words.{levels_of}
use Rattle.cmb_engine.proofs.MoveFacts.{levels_of-past, moving-moves, moving-next, moving-none, moving-small, place-more}
use Rattle.cmb_engine.proofs.moves.move_any.Goals as goal
use Rattle.cmb_engine.proofs.moves.move_any.Goals.{else-slot-len-via-then-slot-len+else-move_slot, else-slot-len-via-else-slot-len}

pub loop-place-init : goal.loop-place-init
loop-place-init c =
    let is : c.into_iter-place-iterator.result ≡ places_set c.args.batch.places = cc in
    record {
      len = refl;
      room = refl;
      kept = λ m h. h;
      moving = moving-none (readers_at c.args.fanout.now.order c.args.fanout.now.gates) c.args.batch.base c.args.batch.places (length c.args.words.now) c.args.ticks c.args.first c.into_iter-place-iterator.result c.args.marks.now
          (levels_of c.args.words.now) is;
    }

pub overflow_add-slot : goal.overflow_add-slot
overflow_add-slot c =
    let small = moving-small (readers_at c.args.fanout.now.order c.args.fanout.now.gates) c.args.batch.base c.args.batch.places (length c.args.words.now) c.args.ticks c.args.first c.loop-place.place-iterator c.loop-place.marks
    (levels_of c.args.words.now) (levels_of c.loop-place.words) c.loop-place.steady c.loop-place.invariant.moving c.in-Some.place c.next.new.self c.in-Some.ensures.steps in
    omega (arith, small, c.args.batch.fits)

pub overflow_shl-steady : goal.overflow_shl-steady
overflow_shl-steady c =
    moving-small (readers_at c.args.fanout.now.order c.args.fanout.now.gates) c.args.batch.base c.args.batch.places (length c.args.words.now) c.args.ticks c.args.first c.loop-place.place-iterator c.loop-place.marks
    (levels_of c.args.words.now) (levels_of c.loop-place.words) c.loop-place.steady c.loop-place.invariant.moving c.in-Some.place c.next.new.self c.in-Some.ensures.steps

pub loop-place-preserved-then-move_slot : goal.loop-place-preserved-then-move_slot
loop-place-preserved-then-move_slot c =
    let small = moving-small (readers_at c.args.fanout.now.order c.args.fanout.now.gates) c.args.batch.base c.args.batch.places (length c.args.words.now) c.args.ticks c.args.first c.loop-place.place-iterator c.loop-place.marks
    (levels_of c.args.words.now) (levels_of c.loop-place.words) c.loop-place.steady c.loop-place.invariant.moving c.in-Some.place c.next.new.self c.in-Some.ensures.steps in
    record {
      len = c.move_slot.ensures.len ∙ c.loop-place.invariant.len;
      room = c.move_slot.ensures.room ∙ c.loop-place.invariant.room;
      kept = λ m h. c.move_slot.ensures.kept m (c.loop-place.invariant.kept m h);
      moving = moving-next (readers_at c.args.fanout.now.order c.args.fanout.now.gates) c.args.batch.base c.args.batch.places (length c.args.words.now) c.args.ticks c.args.first c.loop-place.place-iterator c.loop-place.marks
          (levels_of c.args.words.now) (levels_of c.loop-place.words) c.loop-place.steady c.loop-place.invariant.moving c.in-Some.place c.next.new.self c.in-Some.ensures.steps
          c.move_slot.new.marks (levels_of c.move_slot.new.words) _ c.move_slot.ensures.others c.move_slot.ensures.moved
          (λ i set. place-more (IsSteadyFrom (levels_of c.move_slot.new.words (c.args.batch.base + c.in-Some.place)) 1) c.loop-place.steady c.in-Some.place i small
          (c.move_slot.ensures.steady c.if-move_slot.true) set)
          c.move_slot.ensures.kept (λ inside. c.move_slot.ensures.news);
    }

pub loop-place-preserved : goal.loop-place-preserved
loop-place-preserved c =
    elim c.else-slot-len.branch [
      | else-slot-len-via-then-slot-len+else-move_slot w ↦ rw (w.words-is, w.marks-is) (record {
        len = w.move_slot.ensures.len ∙ c.loop-place.invariant.len;
        room = w.move_slot.ensures.room ∙ c.loop-place.invariant.room;
        kept = λ m h. w.move_slot.ensures.kept m (c.loop-place.invariant.kept m h);
        moving = moving-next (readers_at c.args.fanout.now.order c.args.fanout.now.gates) c.args.batch.base c.args.batch.places (length c.args.words.now) c.args.ticks c.args.first c.loop-place.place-iterator c.loop-place.marks
            (levels_of c.args.words.now) (levels_of c.loop-place.words) c.loop-place.steady c.loop-place.invariant.moving c.in-Some.place c.next.new.self c.in-Some.ensures.steps
            w.move_slot.new.marks (levels_of w.move_slot.new.words) c.loop-place.steady w.move_slot.ensures.others w.move_slot.ensures.moved
            (λ i set. inl set) w.move_slot.ensures.kept (λ inside. w.move_slot.ensures.news);
      })
      | else-slot-len-via-else-slot-len w ↦ rw (w.words-is, w.marks-is) (record {
        len = c.loop-place.invariant.len;
        room = c.loop-place.invariant.room;
        kept = c.loop-place.invariant.kept;
        moving = moving-next (readers_at c.args.fanout.now.order c.args.fanout.now.gates) c.args.batch.base c.args.batch.places (length c.args.words.now) c.args.ticks c.args.first c.loop-place.place-iterator c.loop-place.marks
            (levels_of c.args.words.now) (levels_of c.loop-place.words) c.loop-place.steady c.loop-place.invariant.moving c.in-Some.place c.next.new.self c.in-Some.ensures.steps
            c.loop-place.marks (levels_of c.loop-place.words) c.loop-place.steady (λ m q other. refl)
            (λ q l. levels_of-past c.loop-place.words _ q (omega (arith, w.if-slot-len.false, c.len.ensures)) ∙ sym (levels_of-past c.loop-place.words _ _ (omega (arith, w.if-slot-len.false, c.len.ensures))))
            (λ i set. inl set) (λ m h. h) (λ inside. absurd (omega (arith, inside, w.if-slot-len.false, c.len.ensures, c.loop-place.invariant.len)));
      })
    ]

pub returns-clause-moves : goal.returns-clause-moves
returns-clause-moves c =
    moving-moves (readers_at c.args.fanout.now.order c.args.fanout.now.gates) c.args.batch.base c.args.batch.places c.loop-place.steady (length c.args.words.now) c.args.ticks c.args.first c.loop-place.place-iterator c.args.marks.now c.loop-place.marks
    (levels_of c.args.words.now) (levels_of c.loop-place.words) c.loop-place.invariant.room c.loop-place.invariant.kept c.loop-place.invariant.moving c.in-None.ensures.steps.0
