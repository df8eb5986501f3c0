use Rattle.std.proofs.Common.{◌<◌, ap, arith, get_or, length}
use Rattle.std.proofs.lemmas.List.Elements.{All-contains}
use Rattle.std.proofs.lemmas.Result.{IfOk-weaker}
use Rattle.cmb_cone.proofs.ChosenFacts.{places_back, places_count, places_rise, places_within}
use Rattle.cmb_cone.proofs.part.places_in.Goals as goal

pub renumbered_all-requires : goal.renumbered_all-requires
renumbered_all-requires c = λ k d within.
    let below : get_or c.args.some.now k d < c.args.count = All-contains (λ net. net < c.args.count) c.args.nets.now (get_or c.args.some.now k d) c.requires.nets (c.requires.there k d within) in
    omega (arith, below, ap length c.as_slice.ensures.value, c.in_ok-places.ensures.0)

pub returns : goal.returns
returns c =
    let nets = c.args.nets.now in
    let places = c.in_ok-places.places.items in
    let some = c.args.some.now in
    let are = c.in_ok-places.ensures.1 in
    let found = rw c.as_slice.ensures.value at c.renumbered_all.ensures in
    record {
      back = IfOk-weaker c.renumbered_all.result _ _ (λ v is. places_back nets places some v.items are c.requires.rising c.requires.there is) found;
      within = IfOk-weaker c.renumbered_all.result _ _ (λ v is. places_within nets places some v.items are c.requires.rising c.requires.there is) found;
      rising = IfOk-weaker c.renumbered_all.result _ _ (λ v is rise. places_rise nets places some v.items are c.requires.rising c.requires.there is rise) found;
      count = IfOk-weaker c.renumbered_all.result _ _ (λ v is. places_count nets places some v.items are c.requires.rising c.requires.there is) found;
    }
