use Rattle.std.proofs.Common.{ap, subst}
use Rattle.std.proofs.lemmas.Result.{err_from_is_err_and}
use Rattle.cmb_run_free.specs.Inner.Turns.{Goes, Working, working}
use Rattle.cmb_run_free.proofs.ChannelFacts.{all_fed-later}
use Rattle.cmb_run_free.proofs.TurnFacts.{IsCutShort-seen, step_goes}
use Rattle.cmb_run_free.proofs.worker.Worker.step.Goals as goal

pub invariant_of-self : goal.invariant_of-self
invariant_of-self g c = all_fed-later c.self.inside.cluster c.step.new.self (record { same = c.step.ensures.same; rises = c.step.ensures.rises }) c.self.inside.ins.items c.self.invariant

pub invariant_of-self-2 : goal.invariant_of-self-2
invariant_of-self-2 g c = all_fed-later c.self.inside.cluster c.step.new.self (record { same = c.step.ensures.same; rises = c.step.ensures.rises }) c.self.inside.ins.items c.self.invariant

pub returns-in_err-self-inside : goal.returns-in_err-self-inside
returns-in_err-self-inside g c =
    let inside = c.self.inside in
    let p = err_from_is_err_and c.from_residual.result c.from_residual.ensures.1 in
    rw p.1 (IsCutShort-seen g.T.ClusterRun.design g.T.ClusterRun.clustering c.args.self.now (working c.step.new.self inside.ins.items inside.outs.items inside.worker_seat.seat.view)
    (ap (λ (w : Working). w.outs) c.self.view_is) (ap (λ (w : Working). w.seat) c.self.view_is))

pub returns : goal.returns
returns g c =
    let inside = c.self.inside in
    let now = working c.step.new.self inside.ins.items inside.outs.items inside.worker_seat.seat.view in
    subst (λ (w : Working). Goes g.T.ClusterRun.design g.T.ClusterRun.clustering w now) c.self.view_is
    (step_goes g.T.ClusterRun.design g.T.ClusterRun.clustering inside.cluster c.step.new.self (record { same = c.step.ensures.same; clocks = c.in_ok-self-inside.ensures.clocks }) inside.ins.items inside.outs.items inside.worker_seat.seat.view)
