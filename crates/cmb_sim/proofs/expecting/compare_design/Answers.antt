use Rattle.std.proofs.Common.{◌∙◌, ap, arith, length}
use Rattle.std.proofs.lemmas.Result.{err_from_is_err_and}
use Rattle.cmb_netlist.specs.Netlist.{Netlist}
use Rattle.cmb_sim.proofs.Comparisons.{IsComparisonOf-cut, IsComparisonOf-written}
use Rattle.cmb_sim.proofs.Outcomes.{IsMade-refused}
use Rattle.cmb_sim.proofs.expecting.compare_design.Goals as goal

pub returns-in_err-rows : goal.returns-in_err-rows
returns-in_err-rows g c =
    let p = err_from_is_err_and c.from_residual.result c.from_residual.ensures.1 in
    rw (p.1, p.2) (IsMade-refused _ _ _ _ _ _ c.in_err-rows.ensures.fault)

pub returns-in_err-write_text : goal.returns-in_err-write_text
returns-in_err-write_text g c =
    let p = err_from_is_err_and c.from_residual-in_err-write_text.result c.from_residual-in_err-write_text.ensures.1 in
    rw (p.1, p.2)
    (IsComparisonOf-cut c.args.request c.args.design.now c.args.table.now _ _ c.in_ok-rows.told.text.items _ c.in_ok-rows.ensures.compared c.in_ok-rows.ensures.runs _
    (rw c.as_slice.ensures.value at c.in_err-write_text.ensures.fault))

pub returns : goal.returns
returns g c =
    IsComparisonOf-written c.args.request c.args.design.now c.args.table.now _ _ c.in_ok-rows.told.text.items _ c.in_ok-rows.ensures.compared c.in_ok-rows.ensures.runs
    (rw c.as_slice.ensures.value at c.in_ok-write_text.ensures.text) _ _ _
    (c.len.ensures.value ∙ ap (λ (n : Netlist). length n.names) c.netlist.ensures) c.horizon.ensures.value
    (omega (arith, c.len-2.ensures, c.in_ok-rows.told.text.ok))
