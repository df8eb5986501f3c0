use Rattle.std.proofs.Common.{◌≡◌, ◌≤◌, not, false, slice_index_or}
use Rattle.cmb_count.specs.Below.{count_below}
use Rattle.cmb_count.proofs.unused.count_unset.Given as goal

abbrev pub invariant-loop-net : goal.invariant-loop-net
invariant-loop-net l = (l.count ≡ count_below (λ net. not (slice_index_or l.marks net false)) l.net) × (l.count ≤ l.net)
