use Rattle.std.proofs.Common.{◌≡◌, ℕ, ◌<◌, false, length, slice_index_or}
use Rattle.cmb_count.specs.Unused.{is_used_below}
use Rattle.cmb_count.proofs.unused.mark_used.Given as goal

abbrev pub invariant-loop-net : goal.invariant-loop-net
invariant-loop-net l = record {
  long : length l.marks ≡ length l.netlist.names;
  marked : (net : ℕ) → net < length l.netlist.names → slice_index_or l.marks net false ≡ is_used_below l.netlist l.net net;
}
