use Rattle.std.proofs.Common.{◌≡◌, length, All}
use Rattle.cmb_graph_partition.specs.declared.shares.Share.{Share}
use Rattle.cmb_graph_partition.proofs.driven.shares_of.Given as goal

abbrev pub invariant-loop-number : goal.invariant-loop-number
invariant-loop-number l = record {
  count : length l.shares.items ≡ l.number;
  marks : All (λ (share : Share). length share.driven.items ≡ length l.sets) l.shares.items;
}
