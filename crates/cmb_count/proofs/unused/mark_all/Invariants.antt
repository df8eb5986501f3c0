use Rattle.std.proofs.Common.{◌≡◌, ◌||◌, ℕ, ◌<◌, false, length, slice_index_or, take}
use Rattle.cmb_count.specs.Unused.{is_among}
use Rattle.cmb_count.proofs.unused.mark_all.Given as goal

abbrev pub invariant-loop-net : goal.invariant-loop-net
invariant-loop-net l = record {
  long : length l.marks ≡ length l.initial.marks;
  marked : (net : ℕ) → net < length l.initial.marks → slice_index_or l.marks net false ≡ (slice_index_or l.initial.marks net false || is_among (take l.net-index l.nets) net);
}
