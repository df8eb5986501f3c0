use Rattle.std.proofs.Common.{ap}
use Rattle.cmb_links.specs.Seats.{SeatData}
use Rattle.cmb_run_free.proofs.TurnFacts.{SeatGoes-finish}
use Rattle.cmb_run_free.proofs.worker_seat.WorkerSeat.finish.Goals as goal

pub returns-then-not-self : goal.returns-then-not-self
returns-then-not-self g c = SeatGoes-finish g.T.ClusterRun.design g.T.ClusterRun.clustering c.args.self.now.seat.view c.finish.new.seat.view (ap (λ (s : SeatData). s.view) c.finish.ensures.entry)
