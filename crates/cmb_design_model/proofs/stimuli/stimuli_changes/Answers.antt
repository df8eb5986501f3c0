use Rattle.std.proofs.Common.{◌≡◌, ◌∙◌, refl, arith, take}
use Rattle.std.proofs.lemmas.List.{take_all}
use Rattle.std.proofs.lemmas.Result.{err_from_is_err_and}
use Rattle.cmb_design_model.specs.Checks.{checks_after, first_fault}
use Rattle.cmb_design_model.specs.Rows.{stimulus_row_checks}
use Rattle.cmb_design_model.proofs.CheckFacts.{pass_at, stops_at}
use Rattle.cmb_design_model.proofs.StimulusFacts.{changes_of_stimuli, stimuli_none}
use Rattle.cmb_design_model.proofs.stimuli.stimuli_changes.Goals as goal

pub loop-i-init : goal.loop-i-init
unfolding checks_after first_fault
loop-i-init c = (stimuli_none c.args.netlist.now c.in-Ok.table.items (c.in-Ok.ensures.0 ∙ c.len.ensures.value) c.in-Ok.ensures.1, refl)

pub returns-in_err-take_stimulus-clause-err : goal.returns-in_err-take_stimulus-clause-err
returns-in_err-take_stimulus-clause-err c =
    let p = err_from_is_err_and c.from_residual.result c.from_residual.ensures.1 in
    rw (p.1, p.2) (stops_at (stimulus_row_checks c.args.netlist.now) c.args.rows.now c.loop-i.i c.in_err-take_stimulus.field-0.0 (omega arith) c.loop-i.invariant.1 c.in_err-take_stimulus.ensures.err)

pub returns-clause-ok : goal.returns-clause-ok
returns-clause-ok c =
    let rows = c.args.rows.now in
    let all : take c.loop-i.i rows ≡ rows = take_all c.loop-i.i rows (omega arith) in
    let taken = rw all at c.loop-i.invariant in
    (taken.1, c.in-Ok-settle_all.ensures ∙ changes_of_stimuli c.args.netlist.now rows c.loop-i.table.items 4294967296 taken.0)

pub loop-i-preserved : goal.loop-i-preserved
loop-i-preserved c =
    let ok = c.in_ok-take_stimulus.ensures.ok in
    (ok.1, pass_at (stimulus_row_checks c.args.netlist.now) c.args.rows.now c.loop-i.i (omega arith) c.loop-i.invariant.1 ok.0)
