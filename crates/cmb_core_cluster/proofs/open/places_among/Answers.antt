use Rattle.std.proofs.Common.{◌≡◌, ◌+◌, ◌-◌, ◌<◌, ℕ, None, drop, get_or, length, subst, sym, arith, ◌∙◌}
use Rattle.std.proofs.lemmas.List.{length-set}
use Rattle.cmb_core_cluster.specs.Directory.{place_in}
use Rattle.cmb_core_cluster.proofs.OpeningFacts.{place_more, shifted}
use Rattle.cmb_core_cluster.proofs.open.places_among.Goals as goal

pub loop-place-preserved : goal.loop-place-preserved
loop-place-preserved c =
    let k : ℕ = c.loop-place.place - 1 in
    let within : k < length c.args.nets.now = omega (arith, c.loop-place-test.true, c.loop-place.auto.place) in
    let next : k + 1 ≡ c.loop-place.place = omega (arith, c.loop-place-test.true) in
    let there = c.requires.there k 0 within in
    let inside : get_or c.args.nets.now k 0 < length c.loop-place.places.items = omega (arith, there, c.loop-place.invariant.count) in
    record {
      count = length-set c.loop-place.places.items _ _ ∙ c.loop-place.invariant.count;
      each = λ net.
          let P : ℕ → Type 0 = λ n. get_or c.loop-place.places.items net None ≡ shifted n (place_in (drop n c.args.nets.now) net) in
          place_more c.args.nets.now c.loop-place.places.items k net within inside (subst P (sym next) (c.loop-place.invariant.each net));
    }
