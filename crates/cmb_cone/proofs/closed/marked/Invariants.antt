use Rattle.std.proofs.Common.{◌≡◌, get_or, false}
use Rattle.std.specs.List.{filter, range_with_len}
use Rattle.cmb_cone.proofs.closed.marked.Given as goal

abbrev pub invariant-loop-net : goal.invariant-loop-net
invariant-loop-net l = l.nets.items ≡ filter (λ net. get_or l.marks net false) (range_with_len 0 l.net)
