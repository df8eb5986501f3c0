-- What stays of a worker, whatever it does.
use Rattle.std.specs.Prelude.{◌≡◌}
use Rattle.links_stress.specs.Seats.{at_first}
use Rattle.links_stress.specs.declared.worker.Worker.{Worker}

-- it has the same seat, whatever was done there, and passes of the same links
pub record HasSameHold (old new : Worker) : Type 0 where
  pub seat : at_first new.watch.seat ≡ at_first old.watch.seat
  pub put : new.out.pass.link ≡ old.out.pass.link
  pub take : new.into.pass.link ≡ old.into.pass.link
