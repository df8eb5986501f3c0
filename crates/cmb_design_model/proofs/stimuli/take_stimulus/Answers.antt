use Rattle.std.proofs.Common.{◌∙◌, sym, ap, inr, true, false}
use Rattle.std.proofs.lemmas.Result.{err_from_is_err_and}
use Rattle.cmb_netlist.specs.Netlist.{number_of}
use Rattle.cmb_design_model.specs.Nets.{is_input}
use Rattle.cmb_design_model.specs.declared.rows.StimulusRow.{StimulusRow}
use Rattle.cmb_design_model.proofs.CheckFacts.{element_at}
use Rattle.cmb_design_model.proofs.StimulusFacts.{stimulus_answer, stimulus_refused}
use Rattle.cmb_design_model.proofs.stimuli.take_stimulus.Goals as goal

pub returns-in_err-net-clause-err : goal.returns-in_err-net-clause-err
returns-in_err-net-clause-err c =
    let p = err_from_is_err_and c.from_residual.result c.from_residual.ensures.1 in
    rw (p.1, p.2) (stimulus_refused c.args.netlist.now c.args.rows.now c.args.i c.in_err-net.field-0.0 c.in_err-net.ensures.err)

pub returns-then-not-is_input_driver-clause-err : goal.returns-then-not-is_input_driver-clause-err
returns-then-not-is_input_driver-clause-err c =
    let row = element_at c.args.rows.now c.args.i c.requires.within in
    let driven = sym (c.is_input_driver.ensures ∙ ap is_input c.driver.ensures) ∙ c.if-not-is_input_driver.true in
    inr (stimulus_answer c.args.netlist.now c.args.rows.now c.args.i row.0 c.in_ok-net.net false c.requires.within row.1 (ap (λ (r : StimulusRow). number_of c.args.netlist.now r.net) row.1 ∙ c.in_ok-net.ensures.net row.0) c.in_ok-net.ensures.checks driven)

pub returns-clause-ok : goal.returns-clause-ok
returns-clause-ok c =
    let row = element_at c.args.rows.now c.args.i c.requires.within in
    let driven = sym (c.is_input_driver.ensures ∙ ap is_input c.driver.ensures) ∙ c.if-not-is_input_driver.false in (
      stimulus_answer c.args.netlist.now c.args.rows.now c.args.i row.0 c.in_ok-net.net true c.requires.within row.1 (ap (λ (r : StimulusRow). number_of c.args.netlist.now r.net) row.1 ∙ c.in_ok-net.ensures.net row.0) c.in_ok-net.ensures.checks driven,
      c.in_ok-net.ensures.table,
    )
