use Rattle.std.proofs.Common.{Ok, refl, sym, ap, ◌∙◌, arith}
use Rattle.std.proofs.lemmas.List.{map-append}
use Rattle.std.proofs.lemmas.Result.{err_from_is_err_and}
use Rattle.cmb_bench.specs.Inner.Views.{mention, mentions}
use Rattle.cmb_bench.specs.Inner.Reading.{operands_at}
use Rattle.cmb_bench.proofs.Listing.{with_front, next_round, last_one, too_many, no_mark, stops_at, fails_on}
use Rattle.cmb_bench.specs.Inner.Scan.{scan}
use Rattle.cmb_bench.proofs.parser.read_operands.Goals as goal

pub returns-in_err-used-clause-read : goal.returns-in_err-used-clause-read
returns-in_err-used-clause-read c = let p = err_from_is_err_and c.from_residual.result c.from_residual.ensures.1 in rw (p.1, p.2) (fails_on _ _ _ (λ f h. sym c.loop-operands.invariant.same ∙ stops_at _ _ f _ h) c.in_err-used.ensures.read)

pub loop-operands-preserved : goal.loop-operands-preserved
loop-operands-preserved c = record {
  same = ap (λ us. with_front (mentions us) (operands_at c.args.cell (scan c.next-after.new.self))) c.in_ok-push.ensures.ok ∙ ap (λ ms. with_front ms (operands_at c.args.cell (scan c.next-after.new.self))) (map-append mention c.loop-operands.operands.items _) ∙ next_round _ _ _ _ _ _ _ c.in_ok-used.ensures.read c.next-after.ensures.token (c.if-is.ensures.inner refl (λ no. absurd cc)) (sym c.if-is.ensures.value) (sym c.if-takes_one.ensures) ∙ c.loop-operands.invariant.same;
  shorter = omega arith;
  fits = omega arith;
}

pub returns-then-takes_one-clause-read : goal.returns-then-takes_one-clause-read
returns-then-takes_one-clause-read c = rw c.fault_at.ensures (sym c.loop-operands.invariant.same ∙ too_many _ _ _ _ _ _ _ c.in_ok-used.ensures.read c.next-after.ensures.token (sym c.if-is.ensures.value) (sym c.if-takes_one.ensures))

pub returns-then-is-2-clause-read : goal.returns-then-is-2-clause-read
returns-then-is-2-clause-read c = sym c.loop-operands.invariant.same ∙ last_one _ _ _ _ _ _ _ c.in_ok-used.ensures.read c.next-after.ensures.token (c.if-is-2.ensures.inner refl (λ no. absurd cc)) (sym c.if-is.ensures.value) (sym c.if-is-2.ensures.value) ∙ ap (λ us. Ok (us, scan c.next-after.new.self)) (sym (ap mentions c.in_ok-push.ensures.ok ∙ map-append mention c.loop-operands.operands.items _))

pub returns-else-is-2-clause-read : goal.returns-else-is-2-clause-read
returns-else-is-2-clause-read c = rw c.misplaced.ensures (sym c.loop-operands.invariant.same ∙ no_mark _ _ _ _ _ _ _ c.in_ok-used.ensures.read c.next-after.ensures.token (sym c.if-is.ensures.value) (sym c.if-is-2.ensures.value))
