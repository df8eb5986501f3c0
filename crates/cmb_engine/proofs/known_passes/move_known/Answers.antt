use Rattle.std.proofs.Common.{◌≡◌, ◌+◌, ◌∙◌, refl, sym, arith, length}
use Rattle.cmb_words.specs.Bits.{places_set}
use Rattle.cmb_engine.specs.Inner.Cells.{IsSteadyFrom, readers_at}
use Rattle.cmb_engine.specs.Inner.Known.{known_levels, known_planes}
use Rattle.cmb_engine.proofs.KnownFacts.{known-length}
use Rattle.cmb_engine.proofs.MoveFacts.{levels_of-past, moves-within, moving-moves, moving-next, moving-none, moving-set, moving-small, place-wanted}
use Rattle.cmb_engine.proofs.known_passes.move_known.Goals as goal

pub loop-place-init : goal.loop-place-init
loop-place-init c =
    let is : c.into_iter-place-iterator.result ≡ places_set c.places_below-places.result = cc in
    record {
      len = refl;
      room = refl;
      kept = λ m h. h;
      moving = moving-none (readers_at c.args.fanout.now.order c.args.fanout.now.gates) c.args.batch.base c.places_below-places.result (length c.args.ones.now) c.args.ticks c.args.first c.into_iter-place-iterator.result c.args.marks.now
          (known_levels c.args.ones.now) is;
    }

pub overflow_add-slot : goal.overflow_add-slot
overflow_add-slot c =
    let small = moving-small (readers_at c.args.fanout.now.order c.args.fanout.now.gates) c.args.batch.base c.places_below-places.result (length c.args.ones.now) c.args.ticks c.args.first c.loop-place.place-iterator c.loop-place.marks
    (known_levels c.args.ones.now) (known_levels c.loop-place.ones) c.loop-place.steady c.loop-place.invariant.moving c.in-Some.place c.next.new.self c.in-Some.ensures.steps in
    omega (arith, small, c.args.batch.fits)

pub move_known_slot-is_still-requires-clause-slot : goal.move_known_slot-is_still-requires-clause-slot
move_known_slot-is_still-requires-clause-slot c =
    let small = moving-small (readers_at c.args.fanout.now.order c.args.fanout.now.gates) c.args.batch.base c.places_below-places.result (length c.args.ones.now) c.args.ticks c.args.first c.loop-place.place-iterator c.loop-place.marks
    (known_levels c.args.ones.now) (known_levels c.loop-place.ones) c.loop-place.steady c.loop-place.invariant.moving c.in-Some.place c.next.new.self c.in-Some.ensures.steps in
    let set = moving-set (readers_at c.args.fanout.now.order c.args.fanout.now.gates) c.args.batch.base c.places_below-places.result (length c.args.ones.now) c.args.ticks c.args.first c.loop-place.place-iterator c.loop-place.marks
    (known_levels c.args.ones.now) (known_levels c.loop-place.ones) c.loop-place.steady c.loop-place.invariant.moving c.in-Some.place c.next.new.self c.in-Some.ensures.steps in
    let inside = (c.places_below-places.ensures.below c.in-Some.place small set).1 in
    omega (arith, inside, c.loop-place.invariant.len)

pub move_known_slot-is_still-requires-clause-list : goal.move_known_slot-is_still-requires-clause-list
move_known_slot-is_still-requires-clause-list c =
    let small = moving-small (readers_at c.args.fanout.now.order c.args.fanout.now.gates) c.args.batch.base c.places_below-places.result (length c.args.ones.now) c.args.ticks c.args.first c.loop-place.place-iterator c.loop-place.marks
    (known_levels c.args.ones.now) (known_levels c.loop-place.ones) c.loop-place.steady c.loop-place.invariant.moving c.in-Some.place c.next.new.self c.in-Some.ensures.steps in
    let set = moving-set (readers_at c.args.fanout.now.order c.args.fanout.now.gates) c.args.batch.base c.places_below-places.result (length c.args.ones.now) c.args.ticks c.args.first c.loop-place.place-iterator c.loop-place.marks
    (known_levels c.args.ones.now) (known_levels c.loop-place.ones) c.loop-place.steady c.loop-place.invariant.moving c.in-Some.place c.next.new.self c.in-Some.ensures.steps in
    let inside = (c.places_below-places.ensures.below c.in-Some.place small set).1 in
    c.requires.lists _ inside

pub with_place-steady-requires : goal.with_place-steady-requires
with_place-steady-requires c =
    moving-small (readers_at c.args.fanout.now.order c.args.fanout.now.gates) c.args.batch.base c.places_below-places.result (length c.args.ones.now) c.args.ticks c.args.first c.loop-place.place-iterator c.loop-place.marks
    (known_levels c.args.ones.now) (known_levels c.loop-place.ones) c.loop-place.steady c.loop-place.invariant.moving c.in-Some.place c.next.new.self c.in-Some.ensures.steps

pub loop-place-preserved : goal.loop-place-preserved
loop-place-preserved c =
    record {
      len = c.move_known_slot-is_still.ensures.len ∙ c.loop-place.invariant.len;
      room = c.move_known_slot-is_still.ensures.room ∙ c.loop-place.invariant.room;
      kept = λ m h. c.move_known_slot-is_still.ensures.kept m (c.loop-place.invariant.kept m h);
      moving = moving-next (readers_at c.args.fanout.now.order c.args.fanout.now.gates) c.args.batch.base c.places_below-places.result (length c.args.ones.now) c.args.ticks c.args.first c.loop-place.place-iterator c.loop-place.marks
          (known_levels c.args.ones.now) (known_levels c.loop-place.ones) c.loop-place.steady c.loop-place.invariant.moving c.in-Some.place c.next.new.self c.in-Some.ensures.steps
          c.move_known_slot-is_still.new.marks (known_levels c.move_known_slot-is_still.new.ones) c.with_place-steady.result c.move_known_slot-is_still.ensures.others c.move_known_slot-is_still.ensures.moved
          (λ i set. place-wanted (IsSteadyFrom (known_levels c.move_known_slot-is_still.new.ones (c.args.batch.base + c.in-Some.place)) 1) c.loop-place.steady c.with_place-steady.result
          c.move_known_slot-is_still.result c.in-Some.place i c.with_place-steady.ensures.here c.with_place-steady.ensures.others c.move_known_slot-is_still.ensures.steady set)
          c.move_known_slot-is_still.ensures.kept (λ inside. c.move_known_slot-is_still.ensures.news c.args.first c.requires.begun c.places_from-late.ensures.from);
    }

pub returns-clause-moves : goal.returns-clause-moves
returns-clause-moves c =
    let old = known-length c.args.ones.now in
    let new = known-length c.loop-place.ones in
    moves-within (readers_at c.args.fanout.now.order c.args.fanout.now.gates) c.args.batch.base c.args.batch.places c.places_below-places.result c.loop-place.steady (length c.args.ones.now) c.args.ticks c.args.first c.args.marks.now c.loop-place.marks
    (known_levels c.args.ones.now) (known_levels c.loop-place.ones) c.places_below-places.ensures.below c.places_below-places.ensures.all
    (λ slot p q past. levels_of-past (known_planes c.loop-place.ones) slot p (omega (arith, new, past, c.loop-place.invariant.len))
    ∙ sym (levels_of-past (known_planes c.args.ones.now) slot q (omega (arith, old, past))))
    (moving-moves (readers_at c.args.fanout.now.order c.args.fanout.now.gates) c.args.batch.base c.places_below-places.result c.loop-place.steady (length c.args.ones.now) c.args.ticks c.args.first c.loop-place.place-iterator c.args.marks.now c.loop-place.marks
    (known_levels c.args.ones.now) (known_levels c.loop-place.ones) c.loop-place.invariant.room c.loop-place.invariant.kept c.loop-place.invariant.moving c.in-None.ensures.steps.0)
