use Rattle.std.proofs.Common.{ap}
use Rattle.cmb_links.specs.Seats.{SeatData}
use Rattle.cmb_run_free.proofs.TurnFacts.{SeatGoes-count}
use Rattle.cmb_run_free.proofs.worker_seat.WorkerSeat.all_finished.Goals as goal

pub returns-then-self : goal.returns-then-self
returns-then-self g c = SeatGoes-count g.T.ClusterRun.design g.T.ClusterRun.clustering c.args.self.now.seat.view c.finished.new.seat.view c.finished.result (ap (λ (s : SeatData). s.view) c.finished.ensures.entry)
