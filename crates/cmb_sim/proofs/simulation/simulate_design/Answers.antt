use Rattle.std.proofs.Common.{◌∙◌, ap, length}
use Rattle.std.proofs.lemmas.Result.{err_from_is_err_and}
use Rattle.cmb_netlist.specs.Netlist.{Netlist}
use Rattle.cmb_sim.proofs.Outcomes.{IsMade-refused, IsRunOf-unwritten, IsRunOf-written}
use Rattle.cmb_sim.proofs.simulation.simulate_design.Goals as goal

pub returns-in_err-plan : goal.returns-in_err-plan
returns-in_err-plan g c =
    let p = err_from_is_err_and c.from_residual.result c.from_residual.ensures.1 in
    rw (p.1, p.2) (IsMade-refused _ _ _ _ _ _ c.in_err-plan.ensures.fault)

pub returns-in_err-written : goal.returns-in_err-written
returns-in_err-written g c =
    let p = err_from_is_err_and c.from_residual-in_err-written.result c.from_residual-in_err-written.ensures.1 in
    rw (p.1, p.2) (IsRunOf-unwritten c.args.request c.args.names.now c.args.design.now c.in_ok-plan.plan _ c.in_ok-plan.ensures.plan _ c.in_err-written.ensures)

pub returns : goal.returns
returns g c =
    IsRunOf-written c.args.request c.args.names.now c.args.design.now c.in_ok-plan.plan _ c.in_ok-plan.ensures.plan _ c.in_ok-written.ensures _ _
    (c.len.ensures.value ∙ ap (λ (n : Netlist). length n.names) c.netlist.ensures) c.horizon.ensures.value
