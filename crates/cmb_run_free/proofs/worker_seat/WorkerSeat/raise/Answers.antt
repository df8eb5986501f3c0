use Rattle.std.proofs.Common.{ap}
use Rattle.cmb_links.specs.Seats.{SeatData}
use Rattle.cmb_run_free.proofs.TurnFacts.{SeatGoes-raise}
use Rattle.cmb_run_free.proofs.worker_seat.WorkerSeat.raise.Goals as goal

pub returns : goal.returns
returns g c = SeatGoes-raise g.T.ClusterRun.design g.T.ClusterRun.clustering c.args.self.now.seat.view c.raise.new.seat.view (ap (λ (s : SeatData). s.view) c.raise.ensures.entry)
