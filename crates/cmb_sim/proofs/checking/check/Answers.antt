use Rattle.std.proofs.lemmas.Result.{err_from_is_err_and}
use Rattle.cmb_sim.proofs.Checks.{IsCheck-uncounted, IsCheck-unwritten, IsCheck-written}
use Rattle.cmb_sim.proofs.checking.check.Goals as goal

pub returns-in_err-told : goal.returns-in_err-told
returns-in_err-told g c =
    let p = err_from_is_err_and c.from_residual.result c.from_residual.ensures.1 in
    rw (p.1, p.2) (IsCheck-uncounted c.args.settings c.args.named _ _ _ _ c.in_err-told.ensures)

pub returns-in_err-write_text : goal.returns-in_err-write_text
returns-in_err-write_text g c =
    let p = err_from_is_err_and c.from_residual-in_err-write_text.result c.from_residual-in_err-write_text.ensures.1 in
    rw (p.1, p.2)
    (IsCheck-unwritten c.args.settings c.args.named _ _ c.in_ok-told.told c.in_ok-told.ensures _ (rw c.as_slice.ensures.value at c.in_err-write_text.ensures.fault))

pub returns : goal.returns
returns g c = IsCheck-written c.args.settings c.args.named _ _ c.in_ok-told.told c.in_ok-told.ensures (rw c.as_slice.ensures.value at c.in_ok-write_text.ensures.text)
