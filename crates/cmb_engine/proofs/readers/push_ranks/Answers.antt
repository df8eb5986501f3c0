use Rattle.std.proofs.Common.{◌++◌, ◌∷◌, [], ℕ, List, map, take, sym, ap, ◌∙◌}
use Rattle.std.proofs.lemmas.List.{append_assoc, map_more, take_all}
use Rattle.cmb_engine.specs.Inner.Orders.{rank_in}
use Rattle.cmb_engine.proofs.readers.push_ranks.Goals as goal

pub loop-slot-preserved : goal.loop-slot-preserved
loop-slot-preserved c =
    let f : ℕ → ℕ = rank_in c.args.order.now in
    let before : List ℕ = map f (take c.loop-slot.slot-index c.args.slots.now) in
    c.in_ok-push.ensures.items
    ∙ ap (λ xs. xs ++ c.rank.result ∷ []) c.loop-slot.invariant
    ∙ append_assoc c.args.ranks.now.items before (c.rank.result ∷ [])
    ∙ ap (λ n. c.args.ranks.now.items ++ (before ++ n ∷ [])) c.rank.ensures
    ∙ ap (λ xs. c.args.ranks.now.items ++ xs) (sym (map_more f c.args.slots.now c.loop-slot.slot-index 0 c.loop-slot-test.true))

pub returns : goal.returns
returns c = c.loop-slot.invariant ∙ ap (λ xs. c.args.ranks.now.items ++ map (rank_in c.args.order.now) xs) (take_all c.loop-slot.slot-index c.args.slots.now c.loop-slot-test.false)
