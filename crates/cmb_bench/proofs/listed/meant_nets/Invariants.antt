use Rattle.std.proofs.Common.{◌≡◌}
use Rattle.std.specs.List.{filter, range_with_len}
use Rattle.cmb_bench.specs.Listed.{is_meant}
use Rattle.cmb_bench.specs.Statement.{is_member}
use Rattle.cmb_bench.proofs.listed.meant_nets.Given as goal

abbrev pub invariant-loop-net : goal.invariant-loop-net
invariant-loop-net l = l.nets.items ≡ filter (is_meant l.netlist (λ name. is_member name l.said.keys)) (range_with_len 0 l.net)
