use Rattle.std.proofs.Common.{◌≡◌, ◌+◌, ℕ, List, get_or, take, length, arith, refl, ◌∙◌, ap, subst}
use Rattle.std.proofs.lemmas.List.{take_all, take_more, length_push, length-take-le}
use Rattle.cmb_design_model.specs.Timing.{delay}
use Rattle.cmb_core_cluster.specs.Clusters.{AreOperands}
use Rattle.cmb_core_cluster.proofs.OpeningFacts.{placed_at, operands_more, at_more}
use Rattle.cmb_core_cluster.proofs.open.operands_on.Goals as goal

pub overflow_cast-source : goal.overflow_cast-source
overflow_cast-source c =
    let there = c.requires.there c.loop-i.i 0 c.loop-i-test.true in
    omega (arith, there, c.requires.few)

pub bounds-places-source : goal.bounds-places-source
bounds-places-source c = c.requires.there c.loop-i.i 0 c.loop-i-test.true

pub delay-requires-clause-high : goal.delay-requires-clause-high
delay-requires-clause-high c = omega (arith, c.loop-i-test.true, ap length c.requires.pins)

pub unwrap-requires : goal.unwrap-requires
unwrap-requires c = placed_at c.args.places.now c.args.sources.now c.loop-i.i 0 c.requires.placed c.loop-i-test.true

pub loop-i-preserved : goal.loop-i-preserved
loop-i-preserved c =
    let one : take (c.loop-i.i + 1) c.args.sources.now ≡ _ = take_more c.args.sources.now c.loop-i.i 0 c.loop-i-test.true in
    let long : length (take c.loop-i.i c.args.sources.now) ≡ c.loop-i.i = length-take-le c.loop-i.i c.args.sources.now (omega arith) in
    let pin : c.loop-i.i + 1 ≡ 1 + length (take c.loop-i.i c.args.sources.now) = omega arith in
    rw (one, c.in_ok-push.ensures.items) (record {
      operands = operands_more c.args.design.now c.args.net 1 (get_or c.args.sources.now c.loop-i.i 0) _ (take c.loop-i.i c.args.sources.now) c.loop-i.operands.items c.loop-i.invariant.operands refl (c.delay.ensures.value ∙ ap (delay c.args.design.now c.args.net) pin);
      places = at_more c.args.places.now c.loop-i.operands.items _ c.loop-i.invariant.places (c.unwrap.ensures);
      count = length_push c.loop-i.operands.items _ ∙ ap (λ n. n + 1) c.loop-i.invariant.count;
    })

pub returns-clause-operands : goal.returns-clause-operands
returns-clause-operands c =
    subst (λ (sources : List ℕ). AreOperands c.args.design.now c.args.net 1 sources c.loop-i.operands.items)
    (take_all c.loop-i.i c.args.sources.now c.loop-i-test.false) c.loop-i.invariant.operands
