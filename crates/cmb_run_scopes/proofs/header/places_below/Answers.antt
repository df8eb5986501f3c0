use Rattle.std.proofs.Common.{◌≡◌, ◌∷◌, [], ◌+◌, ◌++◌, ◌∙◌, ap, arith, sym}
use Rattle.std.specs.List.{range_with_len}
use Rattle.cmb_run_scopes.proofs.HeaderFacts.{range-more}
use Rattle.cmb_run_scopes.proofs.header.places_below.Goals as goal

pub loop-place-preserved : goal.loop-place-preserved
loop-place-preserved c =
    let place = c.loop-place.place in
    let at : 0 + place ≡ place = omega arith in
    c.in_ok-push.ensures.items ∙ ap (λ places. places ++ place ∷ []) c.loop-place.invariant ∙ ap (λ last. range_with_len 0 place ++ last ∷ []) (sym at) ∙ sym (range-more 0 place)
