use Rattle.std.proofs.Common.{◌≡◌, ℕ, ◌+◌, ◌<◌, Bool, false, length, sym, ap, ◌∙◌, zero-add, add-zero, arith}
use Rattle.std.specs.Prelude.{if◌then◌else◌, map, slice_index_or, sum}
use Rattle.std.specs.List.{range_with_len}
use Rattle.std.proofs.lemmas.List.{get_or_read}
use Rattle.std.proofs.lemmas.List.FromFn.{sum_by-map-range_with_len_more}
use Rattle.cmb_graph_partition.proofs.loads.load.Goals.{then-index, else-index}
use Rattle.cmb_graph_partition.proofs.loads.load.Goals as goal

pub loop-net-preserved : goal.loop-net-preserved
loop-net-preserved c =
    let costs = c.args.costs.now in
    let cost : Bool → ℕ = λ mark. if mark then (slice_index_or costs c.loop-net.net 0) else 0 in
    let f : ℕ → ℕ = λ net. if (slice_index_or c.args.share.now.driven.items net false) then (slice_index_or costs net 0) else 0 in
    let so_far : ℕ = sum (map f (range_with_len 0 c.loop-net.net)) in
    let within : c.loop-net.net < length c.args.share.now.driven.items = omega (arith, c.requires.marks, c.loop-net-test.true) in
    let mark = get_or_read c.args.share.now.driven.items c.loop-net.net c.index.result.now within c.index.ensures false in
    elim c.if-index.branch [
      | then-index w ↦
          let here : w.from-sum.result ≡ f c.loop-net.net = w.from-sum.ensures ∙ ap cost (sym w.if-index.true ∙ mark) in
          record {
            value = w.sum-is ∙ ap (λ n. n + w.from-sum.result) c.loop-net.invariant.value ∙ ap (λ n. so_far + n) here ∙ sym (sum_by-map-range_with_len_more (λ x. x) f 0 c.loop-net.net c.loop-net.net (zero-add c.loop-net.net));
            few = omega (arith, w.sum-is, c.loop-net.invariant.few, w.from-sum.ensures, c.type_inv.costs c.loop-net.net);
          }
      | else-index w ↦
          let here : 0 ≡ f c.loop-net.net = ap cost (sym w.if-index.false ∙ mark) in
          record {
            value = w.sum-is ∙ c.loop-net.invariant.value ∙ sym (add-zero so_far) ∙ ap (λ n. so_far + n) here ∙ sym (sum_by-map-range_with_len_more (λ x. x) f 0 c.loop-net.net c.loop-net.net (zero-add c.loop-net.net));
            few = omega (arith, w.sum-is, c.loop-net.invariant.few);
          }
    ]
