use Rattle.std.proofs.Common.{ℕ, ◌+◌, sym, ap, ◌∙◌, zero-add, arith}
use Rattle.std.specs.Prelude.{map, slice_index_or, sum}
use Rattle.std.specs.List.{range_with_len}
use Rattle.std.proofs.lemmas.List.FromFn.{sum_by-map-range_with_len_more}
use Rattle.cmb_graph_partition.proofs.loads.total.Goals as goal

pub loop-net-preserved : goal.loop-net-preserved
loop-net-preserved c =
    let f : ℕ → ℕ = λ net. slice_index_or c.args.costs.now net 0 in
    let so_far : ℕ = sum (map f (range_with_len 0 c.loop-net.net)) in
    record {
      value = ap (λ n. n + c.from-all.result) c.loop-net.invariant.value ∙ ap (λ n. so_far + n) c.from-all.ensures ∙ sym (sum_by-map-range_with_len_more (λ x. x) f 0 c.loop-net.net c.loop-net.net (zero-add c.loop-net.net));
      few = omega (arith, c.loop-net.invariant.few, c.from-all.ensures, c.type_inv.costs c.loop-net.net);
    }
