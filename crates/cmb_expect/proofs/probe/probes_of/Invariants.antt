use Rattle.cmb_expect.proofs.ProbeFacts.{ArePlaced}
use Rattle.cmb_expect.proofs.probe.probes_of.Given as goal

abbrev pub invariant-loop-place : goal.invariant-loop-place
invariant-loop-place l = ArePlaced l.rows l.probes.items l.place
