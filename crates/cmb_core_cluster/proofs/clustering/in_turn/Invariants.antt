use Rattle.std.proofs.Common.{◌≡◌, ◌%◌, map}
use Rattle.std.specs.List.{range_with_len}
use Rattle.cmb_core_cluster.proofs.clustering.in_turn.Given as goal

abbrev pub invariant-loop-net : goal.invariant-loop-net
invariant-loop-net l = l.assign.items ≡ map (λ net. net % l.clusters) (range_with_len 0 l.net)
