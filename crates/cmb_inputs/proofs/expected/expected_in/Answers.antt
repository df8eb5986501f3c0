use Rattle.std.proofs.Common.{◌≡◌, ◌∙◌, List, None, ap, map, subst}
use Rattle.std.proofs.lemmas.Result.{err_from_is_err_and}
use Rattle.cmb_design_model.specs.Checks.{first_fault, rows_checks}
use Rattle.cmb_design_model.specs.Expected.{expected_of}
use Rattle.cmb_design_model.specs.Rows.{expected_row_checks}
use Rattle.cmb_design_model.specs.declared.rows.StimulusRow.{StimulusRow}
use Rattle.cmb_inputs.proofs.Expectations.{AreUnexpected-of}
use Rattle.cmb_inputs.proofs.Spelled.{Stops, Stops-behind, Stops-front, none_behind}
use Rattle.cmb_inputs.proofs.expected.expected_in.Goals as goal

pub returns-in_err-rows-clause-fault : goal.returns-in_err-rows-clause-fault
returns-in_err-rows-clause-fault c =
    let p = err_from_is_err_and c.from_residual.result c.from_residual.ensures.1 in
    rw (p.1, p.2) (AreUnexpected-of c.args.design.now c.args.table.now _ (Stops-front _ _ _ c.in_err-rows.ensures))

pub returns-in_err-expected-clause-fault : goal.returns-in_err-expected-clause-fault
returns-in_err-expected-clause-fault c =
    let p = err_from_is_err_and c.from_residual-in_err-expected.result c.from_residual-in_err-expected.ensures.1 in
    let P : List StimulusRow → Type 0 = λ rows. Stops (rows_checks (expected_row_checks c.args.design.now.netlist c.args.design.now.horizon) rows) c.in_err-expected.field-0.0 in
    rw (p.1, p.2) (AreUnexpected-of c.args.design.now c.args.table.now _ (Stops-behind _ _ _ c.in_ok-rows.ensures.0 (subst P c.in_ok-rows.ensures.1 c.in_err-expected.ensures.err)))

pub returns-clause-expected : goal.returns-clause-expected
returns-clause-expected c =
    let P : List StimulusRow → Type 0 = λ rows. first_fault (rows_checks (expected_row_checks c.args.design.now.netlist c.args.design.now.horizon) rows) ≡ None in
    record {
      checked = none_behind _ _ c.in_ok-rows.ensures.0 (subst P c.in_ok-rows.ensures.1 c.in_ok-expected.ensures.checks);
      is = c.in_ok-expected.ensures.rows ∙ ap (λ rows. map (expected_of c.args.design.now.netlist) rows) c.in_ok-rows.ensures.1;
    }
