use Rattle.std.proofs.Common.{◌≡◌, ◌∙◌, ◌++◌, [], sym, ap, arith, length}
use Rattle.std.proofs.lemmas.Bool.Decides.{nat_tests}
use Rattle.std.proofs.lemmas.List.{append-nil, nil_from_length}
use Rattle.cmb_run_text.specs.Inner.ValueChanges.{value_changes_of, value_changes_in}
use Rattle.cmb_run_text.proofs.ValueChangeFacts.{value_changes_in-push}
use Rattle.cmb_run_text.proofs.value_changes.add_net_changes.Goals as goal

pub returns-then-is_empty : goal.returns-then-is_empty
unfolding value_changes_of
returns-then-is_empty c =
    let size : length c.args.changes.now ≡ 0 = grind (arith, nat_tests, c.if-is_empty.ensures) in
    let none : c.args.changes.now ≡ [] = nil_from_length c.args.changes.now size in
    sym (append-nil (value_changes_in c.args.parts.now.items)) ∙ ap (λ cs. value_changes_in c.args.parts.now.items ++ value_changes_of c.args.net cs) (sym none)

pub returns : goal.returns
returns c = ap value_changes_in c.in_ok-push.ensures.items ∙ value_changes_in-push c.args.parts.now.items _
