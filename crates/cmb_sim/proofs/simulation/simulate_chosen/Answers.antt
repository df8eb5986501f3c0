use Rattle.std.proofs.lemmas.Result.{err_from_is_err_and}
use Rattle.cmb_faults.specs.declared.answer.Report.{Report}
use Rattle.cmb_inputs.proofs.Read.{IsReading-read, IsReading-unread}
use Rattle.cmb_inputs.specs.Inputs.{texts_in}
use Rattle.cmb_inputs.specs.declared.texts.InputTexts.{InputTexts}
use Rattle.cmb_sim.proofs.Outcomes.{untouched}
use Rattle.cmb_sim.proofs.simulation.simulate_chosen.Goals as goal

pub returns-in_err-texts-clause-outcome : goal.returns-in_err-texts-clause-outcome
returns-in_err-texts-clause-outcome g c =
    let p = err_from_is_err_and c.from_residual.result c.from_residual.ensures.1 in
    rw (p.1, p.2) (IsReading-unread InputTexts Report _ _ _ _ _ c.in_err-texts.ensures.read.failures c.in_err-texts.ensures.read.fault (untouched _ _))

pub returns-clause-outcome : goal.returns-clause-outcome
returns-clause-outcome g c =
    let read = c.in_ok-texts.ensures.read in
    IsReading-read InputTexts Report _ _ _ _ (texts_in c.in_ok-texts.texts) c.in_ok-texts.texts _ read.failures read.ok c.simulate_texts.ensures
