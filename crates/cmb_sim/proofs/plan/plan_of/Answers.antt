use Rattle.std.proofs.lemmas.Result.{err_from_is_err_and}
use Rattle.cmb_sim.proofs.Outcomes.{IsRefused-chosen}
use Rattle.cmb_sim.proofs.plan.plan_of.Goals as goal

pub returns-in_err-check_mode-in-Only-clause-fault : goal.returns-in_err-check_mode-in-Only-clause-fault
returns-in_err-check_mode-in-Only-clause-fault g c =
    let p = err_from_is_err_and c.from_residual-in_err-check_mode-in-Only.result c.from_residual-in_err-check_mode-in-Only.ensures.1 in
    rw (p.1, p.2) (IsRefused-chosen c.args.request c.in-Only.pick c.args.names.now c.in_ok-nets-in-Only.nets.items c.args.design.now _ c.in-Only.is
    c.in_ok-nets-in-Only.ensures.chosen c.in_err-check_mode-in-Only.ensures.fault)
