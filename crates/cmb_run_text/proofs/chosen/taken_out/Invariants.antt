use Rattle.cmb_run_text.proofs.TakenFacts.{AreTaken}
use Rattle.cmb_run_text.proofs.chosen.taken_out.Given as goal

abbrev pub invariant-loop-net : goal.invariant-loop-net
invariant-loop-net l = AreTaken l.fn.waves.items l.nets l.net-index l.waves.items l.chosen.items
