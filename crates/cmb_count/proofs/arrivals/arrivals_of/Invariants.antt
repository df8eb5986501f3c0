use Rattle.cmb_count.specs.Inner.Arrivals.{AreSettled}
use Rattle.cmb_count.proofs.arrivals.arrivals_of.Given as goal

abbrev pub invariant-loop-place : goal.invariant-loop-place
invariant-loop-place l = AreSettled l.design l.between l.components l.all l.place
