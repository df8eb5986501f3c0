use Rattle.std.proofs.Common.{◌≡◌, ◌∙◌, ◌<◌, ◌≤◌, ℕ, true, false, inr, arith}
use Rattle.std.specs.Prelude.{nat_le}
use Rattle.std.proofs.lemmas.Bool.Decides.{nat_tests}
use Rattle.std.proofs.lemmas.Result.{err_from_is_err_and}
use Rattle.cmb_design_model.proofs.StimulusFacts.{expected_answer, expected_refused}
use Rattle.cmb_design_model.proofs.expected.take_expected.Goals as goal

is_late : (horizon read tick : ℕ) → read ≡ horizon → read ≤ tick → nat_le horizon tick ≡ true
is_late horizon read tick same late = grind (arith, nat_tests)

is_early : (horizon read tick : ℕ) → read ≡ horizon → tick < read → nat_le horizon tick ≡ false
is_early horizon read tick same early = grind (arith, nat_tests)

pub returns-in_err-net-clause-err : goal.returns-in_err-net-clause-err
returns-in_err-net-clause-err c =
    let p = err_from_is_err_and c.from_residual.result c.from_residual.ensures.1 in
    rw (p.1, p.2) (expected_refused _ c.args.design.now.horizon c.args.rows.now c.args.i c.in_err-net.field-0.0 (rw c.netlist.ensures at c.in_err-net.ensures.err))

pub returns-then-row-from-clause-err : goal.returns-then-row-from-clause-err
returns-then-row-from-clause-err c =
    inr (expected_answer _ c.args.design.now.horizon c.args.rows.now c.args.i c.index-rows-i.result true c.requires.within c.index-rows-i.is (rw c.netlist.ensures at c.in_ok-net.ensures.checks)
    (is_late _ c.from.result _ (c.from.ensures ∙ c.horizon.ensures.value) c.if-row-from.true))

pub returns-clause-checks : goal.returns-clause-checks
returns-clause-checks c =
    expected_answer _ c.args.design.now.horizon c.args.rows.now c.args.i c.index-rows-i.result false c.requires.within c.index-rows-i.is (rw c.netlist.ensures at c.in_ok-net.ensures.checks)
    (is_early _ c.from.result _ (c.from.ensures ∙ c.horizon.ensures.value) c.if-row-from.false)
