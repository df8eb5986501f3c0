use Rattle.std.proofs.Common.{◌≡◌, ℕ, ◌+◌, ◌-◌, ◌<◌, inr, length, min, sym, ap, subst, ◌∙◌, arith}
use Rattle.cmb_words.specs.Bits.{places_set}
use Rattle.cmb_engine.specs.Inner.Bits.{has}
use Rattle.cmb_engine.specs.Inner.Collects.{IsCollected}
use Rattle.cmb_engine.specs.Inner.Known.{known_levels}
use Rattle.cmb_engine.proofs.CollectFacts.{collected-next, collected-steady, collecting-all, collecting-next, collecting-none, collecting-set, collecting-small, still-wanted}
use Rattle.cmb_engine.proofs.KnownFacts.{known-read}
use Rattle.cmb_engine.proofs.PlaceFacts.{left-few}
use Rattle.cmb_engine.proofs.known_passes.collect_known.Goals as goal

pub loop-place-init : goal.loop-place-init
loop-place-init c =
    let is : c.into_iter-place-iterator.result ≡ places_set c.places_below-places.result = cc in
    let few = left-few c.places_below-places.result c.into_iter-place-iterator.result is in
    record {
      collecting = rw c.reserve.ensures.items (collecting-none (known_levels c.args.ones.now) (has c.args.wanted.now) c.args.first c.wanted_among-batch.result.base c.places_below-places.result c.args.nets (λ place small unset below want. still-wanted (known_levels c.args.ones.now) (has c.args.wanted.now) c.args.first c.args.nets c.args.batch c.wanted_among-batch.result c.requires.quiet c.wanted_among-batch.ensures.base c.wanted_among-batch.ensures.others place small (c.places_below-places.ensures.all place small unset below) below want) c.into_iter-place-iterator.result c.args.changed.now.items (subst (λ (n : ℕ). n < c.args.nets) (sym c.wanted_among-batch.ensures.base) c.requires.base) is (subst (λ (n : ℕ). IsCollected (known_levels c.args.ones.now) (has c.args.wanted.now) c.args.first n c.args.changed.now.items) (sym c.wanted_among-batch.ensures.base) c.requires.collected));
      room = omega (arith, few, c.in_ok-reserve.ensures.ok);
    }

pub bounds-ones-net : goal.bounds-ones-net
bounds-ones-net c =
    let small : c.in-Some.place < 64 = collecting-small (known_levels c.args.ones.now) (has c.args.wanted.now) c.args.first c.wanted_among-batch.result.base c.places_below-places.result c.args.nets (λ place small unset below want. still-wanted (known_levels c.args.ones.now) (has c.args.wanted.now) c.args.first c.args.nets c.args.batch c.wanted_among-batch.result c.requires.quiet c.wanted_among-batch.ensures.base c.wanted_among-batch.ensures.others place small (c.places_below-places.ensures.all place small unset below) below want) c.loop-place.place-iterator c.loop-place.changed.items c.loop-place.invariant.collecting c.in-Some.place c.next.new.self c.in-Some.ensures.steps in
    let set = collecting-set (known_levels c.args.ones.now) (has c.args.wanted.now) c.args.first c.wanted_among-batch.result.base c.places_below-places.result c.args.nets (λ place small unset below want. still-wanted (known_levels c.args.ones.now) (has c.args.wanted.now) c.args.first c.args.nets c.args.batch c.wanted_among-batch.result c.requires.quiet c.wanted_among-batch.ensures.base c.wanted_among-batch.ensures.others place small (c.places_below-places.ensures.all place small unset below) below want) c.loop-place.place-iterator c.loop-place.changed.items c.loop-place.invariant.collecting c.in-Some.place c.next.new.self c.in-Some.ensures.steps in
    let below = (c.places_below-places.ensures.below c.in-Some.place small set).1 in
    omega (arith, below, c.requires.nets)

pub overflow_cast-net-then-not-are_steady_at : goal.overflow_cast-net-then-not-are_steady_at
overflow_cast-net-then-not-are_steady_at c =
    let small : c.in-Some.place < 64 = collecting-small (known_levels c.args.ones.now) (has c.args.wanted.now) c.args.first c.wanted_among-batch.result.base c.places_below-places.result c.args.nets (λ place small unset below want. still-wanted (known_levels c.args.ones.now) (has c.args.wanted.now) c.args.first c.args.nets c.args.batch c.wanted_among-batch.result c.requires.quiet c.wanted_among-batch.ensures.base c.wanted_among-batch.ensures.others place small (c.places_below-places.ensures.all place small unset below) below want) c.loop-place.place-iterator c.loop-place.changed.items c.loop-place.invariant.collecting c.in-Some.place c.next.new.self c.in-Some.ensures.steps in
    let set = collecting-set (known_levels c.args.ones.now) (has c.args.wanted.now) c.args.first c.wanted_among-batch.result.base c.places_below-places.result c.args.nets (λ place small unset below want. still-wanted (known_levels c.args.ones.now) (has c.args.wanted.now) c.args.first c.args.nets c.args.batch c.wanted_among-batch.result c.requires.quiet c.wanted_among-batch.ensures.base c.wanted_among-batch.ensures.others place small (c.places_below-places.ensures.all place small unset below) below want) c.loop-place.place-iterator c.loop-place.changed.items c.loop-place.invariant.collecting c.in-Some.place c.next.new.self c.in-Some.ensures.steps in
    let below = (c.places_below-places.ensures.below c.in-Some.place small set).1 in
    record { fits = omega (arith, below, c.requires.few) }

pub loop-place-preserved-then-not-are_steady_at : goal.loop-place-preserved-then-not-are_steady_at
loop-place-preserved-then-not-are_steady_at c =
    let small : c.in-Some.place < 64 = collecting-small (known_levels c.args.ones.now) (has c.args.wanted.now) c.args.first c.wanted_among-batch.result.base c.places_below-places.result c.args.nets (λ place small unset below want. still-wanted (known_levels c.args.ones.now) (has c.args.wanted.now) c.args.first c.args.nets c.args.batch c.wanted_among-batch.result c.requires.quiet c.wanted_among-batch.ensures.base c.wanted_among-batch.ensures.others place small (c.places_below-places.ensures.all place small unset below) below want) c.loop-place.place-iterator c.loop-place.changed.items c.loop-place.invariant.collecting c.in-Some.place c.next.new.self c.in-Some.ensures.steps in
    let set = collecting-set (known_levels c.args.ones.now) (has c.args.wanted.now) c.args.first c.wanted_among-batch.result.base c.places_below-places.result c.args.nets (λ place small unset below want. still-wanted (known_levels c.args.ones.now) (has c.args.wanted.now) c.args.first c.args.nets c.args.batch c.wanted_among-batch.result c.requires.quiet c.wanted_among-batch.ensures.base c.wanted_among-batch.ensures.others place small (c.places_below-places.ensures.all place small unset below) below want) c.loop-place.place-iterator c.loop-place.changed.items c.loop-place.invariant.collecting c.in-Some.place c.next.new.self c.in-Some.ensures.steps in
    let below = (c.places_below-places.ensures.below c.in-Some.place small set).1 in
    let fewer : length c.loop-place.place-iterator ≡ length c.next.new.self + 1 = ap length c.in-Some.ensures.steps ∙ omega arith in
    record {
      collecting = collecting-next (known_levels c.args.ones.now) (has c.args.wanted.now) c.args.first c.wanted_among-batch.result.base c.places_below-places.result c.args.nets (λ place small unset below want. still-wanted (known_levels c.args.ones.now) (has c.args.wanted.now) c.args.first c.args.nets c.args.batch c.wanted_among-batch.result c.requires.quiet c.wanted_among-batch.ensures.base c.wanted_among-batch.ensures.others place small (c.places_below-places.ensures.all place small unset below) below want) c.loop-place.place-iterator c.loop-place.changed.items c.loop-place.invariant.collecting c.in-Some.place c.next.new.self c.in-Some.ensures.steps c.push_reserved.new.self.items below
          (collected-next (known_levels c.args.ones.now) (has c.args.wanted.now) c.args.first (c.wanted_among-batch.result.base + c.in-Some.place) c.known.result c.loop-place.changed.items c.push_reserved.new.self.items
          (λ place. known-read c.args.ones.now (c.wanted_among-batch.result.base + c.in-Some.place) place (omega (arith, c.requires.nets, below)) ∙ sym (c.known.ensures place))
          (inr (
            c.push_reserved.ensures.items,
            λ steady. c.are_steady_at.ensures.moves c.if-not-are_steady_at.true c.args.first c.requires.begun c.requires.first c.places_from-late.ensures.below
                (λ place from l. sym (c.known.ensures place) ∙ steady place from l ∙ c.known.ensures (c.args.first - 1)),
          )));
      room = omega (arith, fewer, c.loop-place.invariant.room, c.push_reserved.ensures.len, c.push_reserved.ensures.capacity);
    }

pub loop-place-preserved : goal.loop-place-preserved
loop-place-preserved c =
    let small : c.in-Some.place < 64 = collecting-small (known_levels c.args.ones.now) (has c.args.wanted.now) c.args.first c.wanted_among-batch.result.base c.places_below-places.result c.args.nets (λ place small unset below want. still-wanted (known_levels c.args.ones.now) (has c.args.wanted.now) c.args.first c.args.nets c.args.batch c.wanted_among-batch.result c.requires.quiet c.wanted_among-batch.ensures.base c.wanted_among-batch.ensures.others place small (c.places_below-places.ensures.all place small unset below) below want) c.loop-place.place-iterator c.loop-place.changed.items c.loop-place.invariant.collecting c.in-Some.place c.next.new.self c.in-Some.ensures.steps in
    let set = collecting-set (known_levels c.args.ones.now) (has c.args.wanted.now) c.args.first c.wanted_among-batch.result.base c.places_below-places.result c.args.nets (λ place small unset below want. still-wanted (known_levels c.args.ones.now) (has c.args.wanted.now) c.args.first c.args.nets c.args.batch c.wanted_among-batch.result c.requires.quiet c.wanted_among-batch.ensures.base c.wanted_among-batch.ensures.others place small (c.places_below-places.ensures.all place small unset below) below want) c.loop-place.place-iterator c.loop-place.changed.items c.loop-place.invariant.collecting c.in-Some.place c.next.new.self c.in-Some.ensures.steps in
    let below = (c.places_below-places.ensures.below c.in-Some.place small set).1 in
    let inside : c.wanted_among-batch.result.base + c.in-Some.place < length c.args.ones.now = omega (arith, c.requires.nets, below) in
    let fewer : length c.loop-place.place-iterator ≡ length c.next.new.self + 1 = ap length c.in-Some.ensures.steps ∙ omega arith in
    let still = c.are_steady_at.ensures.steady c.if-not-are_steady_at.false c.args.first c.requires.begun c.places_from-late.ensures.from in
    record {
      collecting = collecting-next (known_levels c.args.ones.now) (has c.args.wanted.now) c.args.first c.wanted_among-batch.result.base c.places_below-places.result c.args.nets (λ place small unset below want. still-wanted (known_levels c.args.ones.now) (has c.args.wanted.now) c.args.first c.args.nets c.args.batch c.wanted_among-batch.result c.requires.quiet c.wanted_among-batch.ensures.base c.wanted_among-batch.ensures.others place small (c.places_below-places.ensures.all place small unset below) below want) c.loop-place.place-iterator c.loop-place.changed.items c.loop-place.invariant.collecting c.in-Some.place c.next.new.self c.in-Some.ensures.steps c.loop-place.changed.items below
          (collected-steady (known_levels c.args.ones.now) (has c.args.wanted.now) c.args.first c.loop-place.changed.items (c.wanted_among-batch.result.base + c.in-Some.place)
          (λ place from l. known-read c.args.ones.now (c.wanted_among-batch.result.base + c.in-Some.place) place inside ∙ still place from l ∙ sym (known-read c.args.ones.now (c.wanted_among-batch.result.base + c.in-Some.place) (c.args.first - 1) inside)));
      room = omega (arith, fewer, c.loop-place.invariant.room);
    }

pub returns : goal.returns
returns c = subst (λ (n : ℕ). IsCollected (known_levels c.args.ones.now) (has c.args.wanted.now) c.args.first (min (n + 64) c.args.nets) c.loop-place.changed.items) c.wanted_among-batch.ensures.base (collecting-all (known_levels c.args.ones.now) (has c.args.wanted.now) c.args.first c.wanted_among-batch.result.base c.places_below-places.result c.args.nets (λ place small unset below want. still-wanted (known_levels c.args.ones.now) (has c.args.wanted.now) c.args.first c.args.nets c.args.batch c.wanted_among-batch.result c.requires.quiet c.wanted_among-batch.ensures.base c.wanted_among-batch.ensures.others place small (c.places_below-places.ensures.all place small unset below) below want) c.loop-place.place-iterator c.loop-place.changed.items c.loop-place.invariant.collecting c.in-None.ensures.steps.0)
