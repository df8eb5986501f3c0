use Rattle.std.proofs.Common.{◌≡◌, ◌∙◌, ◌≤◌, ◌<◌, ◌++◌, ℕ, List, arith, drop, length, sym, subst, take}
use Rattle.std.proofs.lemmas.List.{take-append-le, take_all}
use Rattle.cmb_design_model.specs.Exact.{nets_of}
use Rattle.cmb_run_text.specs.Collector.{Collector, wave_of}
use Rattle.cmb_run_rounds.proofs.RoundFacts.{complete_at}
use Rattle.cmb_run_rounds.proofs.rounds.run_named.Goals as goal

-- what a list has where each of its elements was given anew
taken_back : {X : Type 0} (count : ℕ) (new old : List X) → length new ≡ count → take count (new ++ drop (length new) old) ≡ new
taken_back count new old long = take-append-le count new (drop (length new) old) (omega (arith, long)) ∙ take_all count new (omega (arith, long))

pub returns-clause-complete : goal.returns-clause-complete
returns-clause-complete g c =
    let P : Collector → Type 0 = λ k. (net : ℕ) → net < nets_of g.T.ClusterRun.design → g.T.ClusterRun.design.horizon ≤ (wave_of k.waves net).clock in
    complete_at g.T.ClusterRun.design c.into_collector.result c.into_collector.ensures.exact (subst P (sym c.into_collector.ensures.collector) c.hand_over_all.ensures)

pub returns-clause-exact : goal.returns-clause-exact
returns-clause-exact g c = rw c.requires.design_is c.into_collector.ensures.exact

pub hand_over_all-requires : goal.hand_over_all-requires
hand_over_all-requires g c =
    let done = c.in_ok-rounds.ensures in
    let long : length c.all_rounds.new.hands ≡ c.in_ok-hands.hands.len = c.all_rounds.auto.hands ∙ c.deref_mut.ensures.len in
    rw (taken_back c.in_ok-hands.hands.len c.all_rounds.new.hands c.in_ok-hands.hands.items long) (record { hands = done.kept; known = done.complete })

pub returns-clause-rounds : goal.returns-clause-rounds
returns-clause-rounds g c = rw (c.requires.design_is, c.requires.clustering_is) c.in_ok-rounds.ensures.rounds
