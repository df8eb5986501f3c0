use Rattle.std.proofs.Common.{sym, ◌∙◌}
use Rattle.std.proofs.lemmas.Result.{err_from_is_err_and}
use Rattle.cmb_bench.proofs.Listing.{fails_on}
use Rattle.cmb_bench.proofs.Numbers.{uses_round, uses_stop, uses_end}
use Rattle.cmb_bench.proofs.build.numbers_of.Goals as goal

pub returns-in_err-number : goal.returns-in_err-number
returns-in_err-number c = let p = err_from_is_err_and c.from_residual-in_err-number.result c.from_residual-in_err-number.ensures.1 in rw (p.1, p.2) (fails_on _ _ _ (λ f h. sym c.loop-used.invariant ∙ uses_stop _ _ _ _ _ f c.loop-used-test.true h) c.in_err-number.ensures)

pub loop-used-preserved : goal.loop-used-preserved
loop-used-preserved c = uses_round _ _ _ _ _ _ _ c.loop-used-test.true c.in_ok-number.ensures c.in_ok-push.ensures.ok ∙ c.loop-used.invariant

pub returns : goal.returns
returns c = sym c.loop-used.invariant ∙ uses_end _ _ _ _ c.loop-used-test.false
