use Rattle.std.proofs.Common.{◌≡◌, ◌*◌, ◌≤◌}
use Rattle.std.specs.Prelude.{map, slice_index_or, sum}
use Rattle.std.specs.List.{range_with_len}
use Rattle.cmb_graph_partition.proofs.loads.total.Given as goal

abbrev pub invariant-loop-net : goal.invariant-loop-net
invariant-loop-net l = record {
  value : l.all ≡ sum (map (λ net. slice_index_or l.costs net 0) (range_with_len 0 l.net));
  few : l.all ≤ 4294967296 * l.net;
}
