use Rattle.std.proofs.Common.{◌≡◌, take, ◌∙◌, refl, ap, arith, None, rules, length}
use Rattle.std.proofs.lemmas.List.{take_all}
use Rattle.std.proofs.lemmas.Result.{err_from_is_err_and}
use Rattle.std.specs.Prelude.{replicate}
use Rattle.cmb_design_model.specs.Checks.{checks_after, first_fault}
use Rattle.cmb_design_model.specs.Rows.{clock_row_checks}
use Rattle.cmb_design_model.specs.Inner.Tables.{clock_place}
use Rattle.cmb_design_model.specs.Timing.{clock_of_row}
use Rattle.cmb_design_model.proofs.CheckFacts.{pass_at, stops_at}
use Rattle.cmb_design_model.proofs.PlaceFacts.{places-empty}
use Rattle.cmb_design_model.proofs.clocks.take_clocks.Goals as goal

pub loop-i-init : goal.loop-i-init
unfolding checks_after first_fault
loop-i-init c =
    let same = c.in-Ok.ensures.items_if_clones_equal in
    let items = same (search rules) in
    let netlist = c.args.netlist.now in
    (places-empty (clock_place netlist) clock_of_row (length netlist.names) c.in-Ok.table.items (items ∙ ap (λ n. replicate n None) c.len.ensures.value), refl)

pub returns-in_err-take_clock-clause-err : goal.returns-in_err-take_clock-clause-err
returns-in_err-take_clock-clause-err c =
    let p = err_from_is_err_and c.from_residual.result c.from_residual.ensures.1 in
    rw (p.1, p.2) (stops_at (clock_row_checks c.args.netlist.now) c.args.rows.now c.loop-i.i c.in_err-take_clock.field-0.0 (omega arith) c.loop-i.invariant.1 c.in_err-take_clock.ensures.err)

pub loop-i-preserved : goal.loop-i-preserved
loop-i-preserved c =
    let ok = c.in_ok-take_clock.ensures.ok in
    (ok.1, pass_at (clock_row_checks c.args.netlist.now) c.args.rows.now c.loop-i.i (omega arith) c.loop-i.invariant.1 ok.0)

pub returns-clause-ok : goal.returns-clause-ok
returns-clause-ok c =
    let rows = c.args.rows.now in
    let all : take c.loop-i.i rows ≡ rows = take_all c.loop-i.i rows (omega arith) in
    let taken = rw all at c.loop-i.invariant in
    (taken.1, taken.0)
