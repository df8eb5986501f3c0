use Rattle.std.proofs.lemmas.Result.{err_from_is_err_and}
use Rattle.cmb_bench.proofs.Listing.{fails_on}
use Rattle.cmb_bench.proofs.Numbers.{add_input, add_output, add_drive, no_output, no_drive}
use Rattle.std.proofs.Common.{[], ◌∷◌, ◌++◌, ap, ◌∙◌}
use Rattle.cmb_bench.proofs.build.add_item.Goals as goal

pub returns-in_ok-push-in-Input : goal.returns-in_ok-push-in-Input
returns-in_ok-push-in-Input c = rw c.in-Input.is (λ ss. add_input _ _ _ _ _ ss c.in_ok-push-in-Input.ensures.items)

pub returns-in_ok-insert-in-Output : goal.returns-in_ok-insert-in-Output
returns-in_ok-insert-in-Output c = rw c.in-Output.is (λ ss. add_output _ _ _ _ _ _ ss c.in_ok-number-in-Output.ensures c.in_ok-insert-in-Output.ensures.keys)

pub returns-in_ok-push-in-Drive : goal.returns-in_ok-push-in-Drive
returns-in_ok-push-in-Drive c = rw c.in-Drive.is (λ ss. add_drive _ _ _ _ _ _ _ _ ss (rw c.as_slice.ensures at c.in_ok-numbers-in-Drive.ensures) (c.in_ok-push-in-Drive.ensures.items ∙ ap (λ x. c.args.drivers.now.items ++ x ∷ []) c.driver_from.ensures))

pub returns-in_err-number-in-Output : goal.returns-in_err-number-in-Output
returns-in_err-number-in-Output c = let p = err_from_is_err_and c.from_residual-in_err-number-in-Output.result c.from_residual-in_err-number-in-Output.ensures.1 in rw (p.1, p.2, c.in-Output.is)
    (λ ss. fails_on _ _ _ (λ f h. no_output _ _ _ _ f ss h) c.in_err-number-in-Output.ensures)

pub returns-in_err-numbers-in-Drive : goal.returns-in_err-numbers-in-Drive
returns-in_err-numbers-in-Drive c = let p = err_from_is_err_and c.from_residual-in_err-numbers-in-Drive.result c.from_residual-in_err-numbers-in-Drive.ensures.1 in rw (p.1, p.2, c.in-Drive.is)
    (λ ss. fails_on _ _ _ (λ f h. no_drive _ _ _ _ _ _ f ss h) (rw c.as_slice.ensures at c.in_err-numbers-in-Drive.ensures))
