use Rattle.std.proofs.lemmas.Result.{err_from_is_err_and}
use Rattle.cmb_faults.specs.declared.fault.Fault.TheVariants.{Memory}
use Rattle.cmb_sim.proofs.Outcomes.{IsRefused-unrun}
use Rattle.cmb_sim.proofs.plan.plan_for_all.Goals as goal

pub returns-in_err-check_mode-clause-fault : goal.returns-in_err-check_mode-clause-fault
returns-in_err-check_mode-clause-fault g c =
    let p = err_from_is_err_and c.from_residual.result c.from_residual.ensures.1 in
    rw (p.1, p.2) (λ names. IsRefused-unrun c.args.request names c.args.design.now _ c.requires c.in_err-check_mode.ensures.fault)

pub returns-in_err-way-clause-fault : goal.returns-in_err-way-clause-fault
returns-in_err-way-clause-fault g c =
    let p = err_from_is_err_and c.from_residual-in_err-way.result c.from_residual-in_err-way.ensures.1 in
    rw (p.1, p.2) (λ names. IsRefused-unrun c.args.request names c.args.design.now Memory c.requires tt)
