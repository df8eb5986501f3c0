use Rattle.std.proofs.Common.{◌≡◌, ◌<◌, ap, arith, rules}
use Rattle.cmb_wave.specs.declared.level.Promise.{Promise}
use Rattle.cmb_links.specs.Promises.{newest}
use Rattle.cmb_links.specs.Seats.{SeatData}
use Rattle.cmb_links.specs.declared.view.View.{View}
use Rattle.cmb_run_free.proofs.TurnFacts.{Goes-again, SeatGoes-look, publish_goes}
use Rattle.cmb_run_free.specs.Inner.Turns.{working}
use Rattle.cmb_run_free.proofs.worker_seat.WorkerSeat.publish.Goals as goal

pub returns-then-look-promise : goal.returns-then-look-promise
returns-then-look-promise g c = λ cluster ins outs driven known.
    let old = c.args.self.now.seat.view in
    let now = c.look.new.seat.view in
    let looked = ap (λ (s : SeatData). s.view) c.look.ensures.entry in
    let told = ap (λ (s : SeatData). s.view) c.publish.ensures.entry in
    let newest_is : c.look.result ≡ newest c.args.promise.net old.promised.published = search rules in
    let same = ap (λ (v : View). (newest c.args.promise.net v.promised.published).upto) looked in
    let further : (newest c.args.promise.net now.promised.published).upto < c.args.promise.upto = omega (arith, same, ap (λ (p : Promise). p.upto) newest_is, c.if-look-promise.true) in
    Goes-again g.T.ClusterRun.design g.T.ClusterRun.clustering (working cluster ins outs old) (working cluster ins outs now) (working cluster ins outs c.publish.new.seat.view)
    (SeatGoes-look g.T.ClusterRun.design g.T.ClusterRun.clustering old now c.look.result looked cluster ins outs)
    (publish_goes g.T.ClusterRun.design g.T.ClusterRun.clustering now c.publish.new.seat.view c.args.promise further told cluster ins outs driven known)

pub returns-else-look-promise : goal.returns-else-look-promise
returns-else-look-promise g c = λ cluster ins outs driven known.
    SeatGoes-look g.T.ClusterRun.design g.T.ClusterRun.clustering c.args.self.now.seat.view c.look.new.seat.view c.look.result (ap (λ (s : SeatData). s.view) c.look.ensures.entry) cluster ins outs
