use Rattle.std.proofs.Common.{refl}
use Rattle.links_stress.proofs.Seats.{all_seats}
use Rattle.links_stress.proofs.run.run_over.Goals as goal

pub close_all-requires-clause-seats : goal.close_all-requires-clause-seats
close_all-requires-clause-seats g c = all_seats _ _ _ _ _ refl c.in_ok-rest.ensures.first.seat c.in_ok-rest.ensures.second.seat c.in_ok-rest.ensures.last
