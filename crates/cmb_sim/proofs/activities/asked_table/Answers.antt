use Rattle.std.proofs.lemmas.Result.{err_from_is_err_and}
use Rattle.cmb_faults.specs.declared.fault.Fault.TheVariants.{Memory}
use Rattle.cmb_sim.proofs.Outcomes.{IsRefused-chosen, IsRefused-unrun}
use Rattle.cmb_sim.proofs.activities.asked_table.Goals as goal

pub returns-in_err-check_mode-in-All-clause-fault : goal.returns-in_err-check_mode-in-All-clause-fault
returns-in_err-check_mode-in-All-clause-fault c =
    let p = err_from_is_err_and c.from_residual.result c.from_residual.ensures.1 in
    rw (p.1, p.2) (IsRefused-unrun c.args.request c.args.names.now c.args.design.now _ c.in-All.is c.in_err-check_mode-in-All.ensures.fault)

pub returns-in_err-whole_table-in-All-clause-fault : goal.returns-in_err-whole_table-in-All-clause-fault
returns-in_err-whole_table-in-All-clause-fault c =
    let p = err_from_is_err_and c.from_residual-in_err-whole_table-in-All.result c.from_residual-in_err-whole_table-in-All.ensures.1 in
    rw (p.1, p.2) (IsRefused-unrun c.args.request c.args.names.now c.args.design.now Memory c.in-All.is tt)

pub returns-in_err-check_mode-in-Only-clause-fault : goal.returns-in_err-check_mode-in-Only-clause-fault
returns-in_err-check_mode-in-Only-clause-fault c =
    let p = err_from_is_err_and c.from_residual-in_err-check_mode-in-Only.result c.from_residual-in_err-check_mode-in-Only.ensures.1 in
    rw (p.1, p.2)
    (IsRefused-chosen c.args.request c.in-Only.pick c.args.names.now c.in_ok-nets-in-Only.nets.items c.args.design.now _ c.in-Only.is
    c.in_ok-nets-in-Only.ensures.chosen c.in_err-check_mode-in-Only.ensures.fault)
