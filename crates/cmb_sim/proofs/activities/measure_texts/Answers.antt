use Rattle.std.proofs.Common.{inl}
use Rattle.std.proofs.lemmas.Result.{err_from_is_err_and}
use Rattle.cmb_inputs.specs.Inputs.{texts_in}
use Rattle.cmb_sim.proofs.Measured.{IsTabled-spelled}
use Rattle.cmb_sim.proofs.Outcomes.{IsMade-refused}
use Rattle.cmb_sim.proofs.activities.measure_texts.Goals as goal

pub returns-in_err-design : goal.returns-in_err-design
returns-in_err-design g c =
    let p = err_from_is_err_and c.from_residual.result c.from_residual.ensures.1 in
    rw (p.1, p.2) (IsMade-refused _ _ _ _ _ _ (inl c.in_err-design.ensures.fault))

pub returns : goal.returns
returns g c =
    IsTabled-spelled c.args.request (texts_in c.args.texts.now) c.in_ok-design.design _ _ c.in_ok-design.ensures.ok
    (rw c.as_slice.ensures.value at c.measure_design-told.ensures)
