use Rattle.std.proofs.Common.{◌≡◌}
use Rattle.links_stress.specs.Seats.{at_first}
use Rattle.links_stress.proofs.run.look_on.Given as goal

abbrev pub invariant-loop : goal.invariant-loop
invariant-loop l = at_first l.watch.seat ≡ at_first l.initial.watch.seat

abbrev pub invariant-loop-net : goal.invariant-loop-net
invariant-loop-net l = at_first l.watch.seat ≡ at_first l.initial.watch.seat
