use Rattle.std.proofs.Common.{◌≡◌, ℕ, map, ◌%◌, ◌++◌, ◌∷◌, [], arith, sym, ◌∙◌, ap}
use Rattle.std.proofs.lemmas.List.FromFn.{map-range_with_len_more}
use Rattle.std.specs.List.{range_with_len}
use Rattle.cmb_core_cluster.proofs.clustering.in_turn.Goals as goal

pub loop-net-preserved : goal.loop-net-preserved
loop-net-preserved c =
    c.in_ok-push.ensures.items ∙ ap (λ xs. xs ++ c.loop-net.net % c.args.clusters ∷ []) c.loop-net.invariant
    ∙ sym (map-range_with_len_more (λ net. net % c.args.clusters) 0 c.loop-net.net c.loop-net.net (omega arith))

pub returns : goal.returns
returns c =
    let all : c.loop-net.net ≡ c.args.nets = omega (arith, c.loop-net-test.false, c.loop-net.auto.net-end) in
    c.loop-net.invariant ∙ ap (λ (n : ℕ). map (λ net. net % c.args.clusters) (range_with_len 0 n)) all
