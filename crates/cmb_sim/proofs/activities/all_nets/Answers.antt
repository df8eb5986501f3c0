use Rattle.std.proofs.Common.{ℕ, ◌<◌, List, [], ◌∷◌, ◌++◌, ap, arith, subst, sym, ◌∙◌}
use Rattle.std.specs.Prelude.{All}
use Rattle.std.specs.List.{range_with_len}
use Rattle.cmb_cone.proofs.FoundFacts.{range_below, range_more}
use Rattle.cmb_sim.proofs.activities.all_nets.Goals as goal

pub loop-net-preserved : goal.loop-net-preserved
loop-net-preserved c = c.in_ok-push.ensures.items ∙ ap (λ nets. nets ++ c.loop-net.net ∷ []) c.loop-net.invariant ∙ sym (range_more c.loop-net.net)

pub returns-clause-nets : goal.returns-clause-nets
returns-clause-nets c = c.loop-net.invariant ∙ ap (range_with_len 0) (omega (arith, c.loop-net-test.false, c.loop-net.auto.net-end))

pub returns-clause-below : goal.returns-clause-below
returns-clause-below c =
    let AreBelow : List ℕ → Type 0 = λ nets. All (λ net. net < c.args.count) nets in
    subst AreBelow (sym (returns-clause-nets c)) (range_below c.args.count)
