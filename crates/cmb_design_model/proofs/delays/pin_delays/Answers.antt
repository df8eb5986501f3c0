use Rattle.std.proofs.lemmas.Result.{err_from_is_err_and}
use Rattle.cmb_design_model.proofs.delays.pin_delays.Goals as goal

pub returns-in_err-places-clause-err : goal.returns-in_err-places-clause-err
returns-in_err-places-clause-err c = let p = err_from_is_err_and c.from_residual.result c.from_residual.ensures.1 in rw (p.1, p.2) c.in_err-places.ensures.err
