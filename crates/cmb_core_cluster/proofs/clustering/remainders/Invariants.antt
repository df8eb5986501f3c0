use Rattle.std.proofs.Common.{◌≡◌, ◌%◌, map, take}
use Rattle.cmb_core_cluster.proofs.clustering.remainders.Given as goal

abbrev pub invariant-loop-number : goal.invariant-loop-number
invariant-loop-number l = l.left.items ≡ map (λ number. number % l.by) (take l.number-index l.numbers)
