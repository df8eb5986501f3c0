use Rattle.std.proofs.Common.{◌≡◌, ◌<◌, length, All}
use Rattle.cmb_graph_partition.proofs.driven.owners_of.Given as goal

abbrev pub invariant-loop-set : goal.invariant-loop-set
invariant-loop-set l = record {
  long : length l.owners.items ≡ l.set-index;
  below : All (λ owner. owner < l.count) l.owners.items;
  turn : l.turn < l.count;
}
