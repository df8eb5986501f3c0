use Rattle.std.proofs.Common.{◌≡◌, ◌*◌, ◌≤◌, false}
use Rattle.std.specs.Prelude.{if◌then◌else◌, map, slice_index_or, sum}
use Rattle.std.specs.List.{range_with_len}
use Rattle.cmb_graph_partition.proofs.loads.load.Given as goal

abbrev pub invariant-loop-net : goal.invariant-loop-net
invariant-loop-net l = record {
  value : l.sum ≡ sum (map (λ net. if (slice_index_or l.share.driven.items net false) then (slice_index_or l.costs net 0) else 0) (range_with_len 0 l.net));
  few : l.sum ≤ 4294967296 * l.net;
}
