use Rattle.std.proofs.Common.{◌≡◌, ℕ, ◌+◌, ◌<◌, inl, inr, min, refl, sym, subst, ◌∙◌, arith}
use Rattle.std.proofs.lemmas.Bool.{false≢true}
use Rattle.cmb_words.specs.Bits.{places_set}
use Rattle.cmb_engine.specs.Inner.Bits.{has}
use Rattle.cmb_engine.specs.Inner.Collects.{IsCollected}
use Rattle.cmb_engine.specs.Inner.Planes.{planes_of}
use Rattle.cmb_engine.specs.Inner.Words.{levels_of}
use Rattle.cmb_engine.proofs.CollectFacts.{collected-next, collecting-all, collecting-next, collecting-none, collecting-past, still-wanted}
use Rattle.cmb_engine.proofs.WordFacts.{levels_of-read}
use Rattle.cmb_engine.proofs.collect.collect_any.Goals as goal

pub loop-place-init : goal.loop-place-init
loop-place-init c =
    let is : c.into_iter-place-iterator.result ≡ places_set c.wanted_among-batch.result.places = cc in
    collecting-none (levels_of c.args.words.now) (has c.args.wanted.now) c.args.first c.wanted_among-batch.result.base c.wanted_among-batch.result.places c.args.nets (still-wanted (levels_of c.args.words.now) (has c.args.wanted.now) c.args.first c.args.nets c.args.batch c.wanted_among-batch.result c.requires.quiet c.wanted_among-batch.ensures.base c.wanted_among-batch.ensures.others) c.into_iter-place-iterator.result c.args.changed.now.items (subst (λ (n : ℕ). n < c.args.nets) (sym c.wanted_among-batch.ensures.base) c.requires.base) is (subst (λ (n : ℕ). IsCollected (levels_of c.args.words.now) (has c.args.wanted.now) c.args.first n c.args.changed.now.items) (sym c.wanted_among-batch.ensures.base) c.requires.collected)

pub loop-place-preserved-in-Continue-1 : goal.loop-place-preserved-in-Continue-1
loop-place-preserved-in-Continue-1 c =
    collecting-next (levels_of c.args.words.now) (has c.args.wanted.now) c.args.first c.wanted_among-batch.result.base c.wanted_among-batch.result.places c.args.nets (still-wanted (levels_of c.args.words.now) (has c.args.wanted.now) c.args.first c.args.nets c.args.batch c.wanted_among-batch.result c.requires.quiet c.wanted_among-batch.ensures.base c.wanted_among-batch.ensures.others)
    c.loop-place.place-iterator c.loop-place.changed.items c.loop-place.invariant c.in-Some.place c.next.new.self c.in-Some.ensures.steps c.push.new.self.items c.if-net-nets.true
    (collected-next (levels_of c.args.words.now) (has c.args.wanted.now) c.args.first (c.wanted_among-batch.result.base + c.in-Some.place) c.get-word.result c.loop-place.changed.items c.push.new.self.items
    (λ place. levels_of-read c.args.words.now (c.wanted_among-batch.result.base + c.in-Some.place) c.get-word.result place (omega (arith, c.requires.nets, c.if-net-nets.true)) (c.get-word.ensures (planes_of c.get-word.result)))
    (inr (c.in_ok-push.ensures.items, λ steady. false≢true (sym c.if-not-is_steady_from.true ∙ c.is_steady_from.ensures.changes steady))))

pub loop-place-preserved-else-not-is_steady_from : goal.loop-place-preserved-else-not-is_steady_from
loop-place-preserved-else-not-is_steady_from c =
    collecting-next (levels_of c.args.words.now) (has c.args.wanted.now) c.args.first c.wanted_among-batch.result.base c.wanted_among-batch.result.places c.args.nets (still-wanted (levels_of c.args.words.now) (has c.args.wanted.now) c.args.first c.args.nets c.args.batch c.wanted_among-batch.result c.requires.quiet c.wanted_among-batch.ensures.base c.wanted_among-batch.ensures.others)
    c.loop-place.place-iterator c.loop-place.changed.items c.loop-place.invariant c.in-Some.place c.next.new.self c.in-Some.ensures.steps c.loop-place.changed.items c.if-net-nets.true
    (collected-next (levels_of c.args.words.now) (has c.args.wanted.now) c.args.first (c.wanted_among-batch.result.base + c.in-Some.place) c.get-word.result c.loop-place.changed.items c.loop-place.changed.items
    (λ place. levels_of-read c.args.words.now (c.wanted_among-batch.result.base + c.in-Some.place) c.get-word.result place (omega (arith, c.requires.nets, c.if-net-nets.true)) (c.get-word.ensures (planes_of c.get-word.result)))
    (inl (refl, c.is_steady_from.ensures.steady c.if-not-is_steady_from.false)))

pub loop-place-preserved : goal.loop-place-preserved
loop-place-preserved c =
    collecting-past (levels_of c.args.words.now) (has c.args.wanted.now) c.args.first c.wanted_among-batch.result.base c.wanted_among-batch.result.places c.args.nets (still-wanted (levels_of c.args.words.now) (has c.args.wanted.now) c.args.first c.args.nets c.args.batch c.wanted_among-batch.result c.requires.quiet c.wanted_among-batch.ensures.base c.wanted_among-batch.ensures.others)
    c.loop-place.place-iterator c.loop-place.changed.items c.loop-place.invariant c.in-Some.place c.next.new.self c.in-Some.ensures.steps c.if-net-nets.false

pub returns : goal.returns
returns c = subst (λ (n : ℕ). IsCollected (levels_of c.args.words.now) (has c.args.wanted.now) c.args.first (min (n + 64) c.args.nets) c.loop-place.changed.items) c.wanted_among-batch.ensures.base (collecting-all (levels_of c.args.words.now) (has c.args.wanted.now) c.args.first c.wanted_among-batch.result.base c.wanted_among-batch.result.places c.args.nets (still-wanted (levels_of c.args.words.now) (has c.args.wanted.now) c.args.first c.args.nets c.args.batch c.wanted_among-batch.result c.requires.quiet c.wanted_among-batch.ensures.base c.wanted_among-batch.ensures.others) c.loop-place.place-iterator c.loop-place.changed.items c.loop-place.invariant c.in-None.ensures.steps.0)
