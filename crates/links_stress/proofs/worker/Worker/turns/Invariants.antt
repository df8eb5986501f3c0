use Rattle.links_stress.specs.Holds.{HasSameHold}
use Rattle.links_stress.proofs.worker.Worker.turns.Given as goal

abbrev pub invariant-loop : goal.invariant-loop
invariant-loop g l = HasSameHold l.initial.self l.self
