use Rattle.std.proofs.Common.{ap}
use Rattle.cmb_links.specs.Seats.{SeatData}
use Rattle.cmb_run_free.proofs.TurnFacts.{SeatGoes-check}
use Rattle.cmb_run_free.proofs.worker_seat.WorkerSeat.raised.Goals as goal

pub returns : goal.returns
returns g c = SeatGoes-check g.T.ClusterRun.design g.T.ClusterRun.clustering c.args.self.now.seat.view c.raised.new.seat.view c.raised.result (ap (λ (s : SeatData). s.view) c.raised.ensures.entry)
