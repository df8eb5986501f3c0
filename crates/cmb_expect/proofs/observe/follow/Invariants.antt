use Rattle.std.proofs.Common.{drop}
use Rattle.cmb_expect.proofs.TraceFacts.{AreTaken}
use Rattle.cmb_expect.proofs.observe.follow.Given as goal

abbrev pub invariant-loop-one : goal.invariant-loop-one
invariant-loop-one l = AreTaken l.initial.traces l.traces l.changed (drop l.one-index l.changed) l.fn.upto
