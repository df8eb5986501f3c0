use Rattle.std.proofs.Common.{List, ap, subst, sym}
use Rattle.std.specs.List.{Contains}
use Rattle.std.proofs.lemmas.List.Elements.{Contains-push}
use Rattle.cmb_wave.specs.declared.level.Promise.{Promise}
use Rattle.cmb_links.specs.Seats.{SeatData}
use Rattle.cmb_run_free.proofs.TurnFacts.{SeatGoes-look}
use Rattle.cmb_run_free.proofs.worker_seat.WorkerSeat.look.Goals as goal

pub returns-then-promise-eq0-clause-goes : goal.returns-then-promise-eq0-clause-goes
returns-then-promise-eq0-clause-goes g c = SeatGoes-look g.T.ClusterRun.design g.T.ClusterRun.clustering c.args.self.now.seat.view c.look-promise.new.seat.view c.look-promise.result (ap (λ (s : SeatData). s.view) c.look-promise.ensures.entry)

pub returns-clause-found : goal.returns-clause-found
returns-clause-found g c =
    subst (λ (loads : List Promise). Contains loads c.look-promise.result) (sym (ap (λ (s : SeatData). s.view.promised.loads) c.look-promise.ensures.entry))
    (Contains-push c.args.self.now.seat.view.promised.loads c.look-promise.result)

pub returns-clause-goes : goal.returns-clause-goes
returns-clause-goes g c = SeatGoes-look g.T.ClusterRun.design g.T.ClusterRun.clustering c.args.self.now.seat.view c.look-promise.new.seat.view c.look-promise.result (ap (λ (s : SeatData). s.view) c.look-promise.ensures.entry)
