use Rattle.std.proofs.Common.{ℕ, ◌%◌, [], ◌∷◌, ◌++◌, List, get_or, map, sym, ap, ◌∙◌}
use Rattle.std.proofs.lemmas.List.{map_more, take_all}
use Rattle.cmb_core_cluster.proofs.clustering.remainders.Goals as goal

pub loop-number-preserved : goal.loop-number-preserved
loop-number-preserved c =
    c.in_ok-push.ensures.items ∙ ap (λ (left : List ℕ). left ++ get_or c.args.numbers.now c.loop-number.number-index 0 % c.args.by ∷ []) c.loop-number.invariant
    ∙ sym (map_more (λ number. number % c.args.by) c.args.numbers.now c.loop-number.number-index 0 c.loop-number-test.true)

pub returns : goal.returns
returns c = c.loop-number.invariant ∙ ap (map (λ number. number % c.args.by)) (take_all c.loop-number.number-index c.args.numbers.now c.loop-number-test.false)
