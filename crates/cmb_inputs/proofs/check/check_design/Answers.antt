use Rattle.std.proofs.lemmas.Result.{err_from_is_err_and}
use Rattle.cmb_inputs.specs.declared.check.Checked.{Checked}
use Rattle.cmb_inputs.specs.declared.texts.InputTexts.{InputTexts}
use Rattle.cmb_inputs.proofs.Read.{IsReading-read, IsReading-unread}
use Rattle.cmb_inputs.proofs.check.check_design.Goals as goal

pub returns-in_err-texts : goal.returns-in_err-texts
returns-in_err-texts g c =
    let p = err_from_is_err_and c.from_residual.result c.from_residual.ensures.1 in
    rw (p.1, p.2) (IsReading-unread InputTexts Checked _ _ _ _ _ c.in_err-texts.ensures.read.failures c.in_err-texts.ensures.read.fault tt)

pub check_texts-requires : goal.check_texts-requires
check_texts-requires g c = c.in_ok-texts.ensures.read.short

pub returns : goal.returns
returns g c = IsReading-read InputTexts Checked _ _ _ _ _ c.in_ok-texts.texts _ c.in_ok-texts.ensures.read.failures c.in_ok-texts.ensures.read.ok c.check_texts.ensures
