use Rattle.std.proofs.Common.{rules}
use Rattle.std.proofs.lemmas.Result.{IfOk-weaker}
use Rattle.cmb_cone.proofs.ChosenFacts.{once_below, once_few, once_is, once_rises}
use Rattle.cmb_cone.proofs.closed.rising.Goals as goal

pub returns-clause-once : goal.returns-clause-once
returns-clause-once c = IfOk-weaker c.marked.result _ _
    (λ chosen is. once_is c.args.nets.now c.args.count c.add_all.new.self chosen.items c.in_ok-add_all.ensures.found (search rules)
    (rw c.in_ok-found.ensures.2 at c.in_ok-add_all.ensures.gains) (rw c.as_slice.ensures.value at is))
    c.marked.ensures

pub returns-clause-rising : goal.returns-clause-rising
returns-clause-rising c = IfOk-weaker c.marked.result _ _ (λ chosen is. once_rises c.args.count c.args.nets.now chosen.items is) (returns-clause-once c)

pub returns-clause-within : goal.returns-clause-within
returns-clause-within c = IfOk-weaker c.marked.result _ _ (λ chosen is. once_below c.args.count c.args.nets.now chosen.items is) (returns-clause-once c)

pub returns-clause-few : goal.returns-clause-few
returns-clause-few c = IfOk-weaker c.marked.result _ _ (λ chosen is. once_few c.args.count c.args.nets.now chosen.items is c.requires.few) (returns-clause-once c)
