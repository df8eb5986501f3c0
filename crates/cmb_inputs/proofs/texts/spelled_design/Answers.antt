use Rattle.std.proofs.Common.{◌∙◌, subst, None, ◌≡◌}
use Rattle.cmb_design_model.specs.Checks.{first_fault}
use Rattle.cmb_design_model.specs.Settings.{design_checks}
use Rattle.cmb_design_model.specs.Design.{Design}
use Rattle.std.proofs.lemmas.Result.{err_from_is_err_and}
use Rattle.cmb_inputs.proofs.Spelled.{HaveTextFault-of, Stops, Stops-behind, Stops-front, design_in-rows, none_behind}
use Rattle.cmb_inputs.specs.Inputs.{texts_in}
use Rattle.cmb_inputs.proofs.texts.spelled_design.Goals as goal

pub returns-in_err-delays-clause-fault : goal.returns-in_err-delays-clause-fault
returns-in_err-delays-clause-fault c =
    let p = err_from_is_err_and c.from_residual-in_err-delays.result c.from_residual-in_err-delays.ensures.1 in
    rw (p.1, p.2) (HaveTextFault-of (texts_in c.args.texts.now) c.args.settings c.in_ok-netlist.netlist _ (rw c.as_slice.ensures.value at c.in_ok-netlist.ensures.found)
    (Stops-front _ _ _ (rw c.as_slice-2.ensures.value at c.in_err-delays.ensures)))

pub returns-in_err-stimuli-clause-fault : goal.returns-in_err-stimuli-clause-fault
returns-in_err-stimuli-clause-fault c =
    let p = err_from_is_err_and c.from_residual-in_err-stimuli.result c.from_residual-in_err-stimuli.ensures.1 in
    rw (p.1, p.2) (HaveTextFault-of (texts_in c.args.texts.now) c.args.settings c.in_ok-netlist.netlist _ (rw c.as_slice.ensures.value at c.in_ok-netlist.ensures.found)
    (Stops-behind _ _ _ (rw c.as_slice-2.ensures.value at c.in_ok-delays.ensures.0) (Stops-front _ _ _ (rw c.as_slice-3.ensures.value at c.in_err-stimuli.ensures))))

pub returns-in_err-clocks-clause-fault : goal.returns-in_err-clocks-clause-fault
returns-in_err-clocks-clause-fault c =
    let p = err_from_is_err_and c.from_residual-in_err-clocks.result c.from_residual-in_err-clocks.ensures.1 in
    rw (p.1, p.2) (HaveTextFault-of (texts_in c.args.texts.now) c.args.settings c.in_ok-netlist.netlist _ (rw c.as_slice.ensures.value at c.in_ok-netlist.ensures.found)
    (Stops-behind _ _ _ (rw c.as_slice-2.ensures.value at c.in_ok-delays.ensures.0) (Stops-behind _ _ _ (rw c.as_slice-3.ensures.value at c.in_ok-stimuli.ensures.0)
    (Stops-front _ _ _ (rw c.as_slice-4.ensures.value at c.in_err-clocks.ensures)))))

pub returns-in_err-initial-clause-fault : goal.returns-in_err-initial-clause-fault
returns-in_err-initial-clause-fault c =
    let p = err_from_is_err_and c.from_residual-in_err-initial.result c.from_residual-in_err-initial.ensures.1 in
    rw (p.1, p.2) (HaveTextFault-of (texts_in c.args.texts.now) c.args.settings c.in_ok-netlist.netlist _ (rw c.as_slice.ensures.value at c.in_ok-netlist.ensures.found)
    (Stops-behind _ _ _ (rw c.as_slice-2.ensures.value at c.in_ok-delays.ensures.0) (Stops-behind _ _ _ (rw c.as_slice-3.ensures.value at c.in_ok-stimuli.ensures.0)
    (Stops-behind _ _ _ (rw c.as_slice-4.ensures.value at c.in_ok-clocks.ensures.0) (Stops-front _ _ _ (rw c.as_slice-5.ensures.value at c.in_err-initial.ensures))))))

pub returns-in_err-design-clause-fault : goal.returns-in_err-design-clause-fault
returns-in_err-design-clause-fault c =
    let p = err_from_is_err_and c.from_residual-in_err-design.result c.from_residual-in_err-design.ensures.1 in
    let is = design_in-rows (texts_in c.args.texts.now) c.args.settings c.in_ok-netlist.netlist _ _ _ _ (rw c.as_slice-2.ensures.value at c.in_ok-delays.ensures.1) (rw c.as_slice-3.ensures.value at c.in_ok-stimuli.ensures.1) (rw c.as_slice-4.ensures.value at c.in_ok-clocks.ensures.1) (rw c.as_slice-5.ensures.value at c.in_ok-initial.ensures.1) in
    let P : Design → Type 0 = λ d. Stops (design_checks d) c.in_err-design.field-0.0 in
    rw (p.1, p.2) (HaveTextFault-of (texts_in c.args.texts.now) c.args.settings c.in_ok-netlist.netlist _ (rw c.as_slice.ensures.value at c.in_ok-netlist.ensures.found)
    (Stops-behind _ _ _ (rw c.as_slice-2.ensures.value at c.in_ok-delays.ensures.0) (Stops-behind _ _ _ (rw c.as_slice-3.ensures.value at c.in_ok-stimuli.ensures.0)
    (Stops-behind _ _ _ (rw c.as_slice-4.ensures.value at c.in_ok-clocks.ensures.0) (Stops-behind _ _ _ (rw c.as_slice-5.ensures.value at c.in_ok-initial.ensures.0) (subst P is c.in_err-design.ensures.checks))))))

pub returns-clause-ok : goal.returns-clause-ok
returns-clause-ok c =
    let is = design_in-rows (texts_in c.args.texts.now) c.args.settings c.in_ok-netlist.netlist _ _ _ _ (rw c.as_slice-2.ensures.value at c.in_ok-delays.ensures.1) (rw c.as_slice-3.ensures.value at c.in_ok-stimuli.ensures.1) (rw c.as_slice-4.ensures.value at c.in_ok-clocks.ensures.1) (rw c.as_slice-5.ensures.value at c.in_ok-initial.ensures.1) in
    let P : Design → Type 0 = λ d. first_fault (design_checks d) ≡ None in
    record {
      netlist = c.in_ok-netlist.netlist;
      read = rw c.as_slice.ensures.value at c.in_ok-netlist.ensures.found;
      checked = none_behind _ _ (rw c.as_slice-2.ensures.value at c.in_ok-delays.ensures.0) (none_behind _ _ (rw c.as_slice-3.ensures.value at c.in_ok-stimuli.ensures.0)
          (none_behind _ _ (rw c.as_slice-4.ensures.value at c.in_ok-clocks.ensures.0) (none_behind _ _ (rw c.as_slice-5.ensures.value at c.in_ok-initial.ensures.0) (subst P is c.in_ok-design.ensures.checks.0))));
      is = c.in_ok-design.ensures.checks.1 ∙ is;
    }
