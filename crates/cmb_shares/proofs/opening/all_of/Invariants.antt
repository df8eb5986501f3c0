use Rattle.std.proofs.Common.{◌≡◌, ◌++◌, Ok, map}
use Rattle.cmb_shares.proofs.opening.all_of.Given as goal

abbrev pub invariant-loop-one : goal.invariant-loop-one
invariant-loop-one g l = l.fn.made.items ≡ map Ok l.all.items ++ l.one-iterator.rest.items
