use Rattle.std.proofs.Common.{◌≡◌, [], ◌∷◌, ◌++◌, ◌∙◌, ap, arith, length, rules, sym, subst}
use Rattle.std.specs.Prelude.{option_to_list}
use Rattle.std.specs.List.{AllByRecursion}
use Rattle.cmb_design_model.specs.Exact.{IsExactWaveIn}
use Rattle.cmb_core_cluster.proofs.Everywhere.{all_front, all_push}
use Rattle.cmb_run_rounds.proofs.HandFacts.{IsGiven, all_none}
use Rattle.cmb_run_rounds.proofs.collected.Collected.adopt_all.Goals as goal

pub loop-wave-preserved : goal.loop-wave-preserved
loop-wave-preserved g c =
    let items : c.loop-wave.waves.items ≡ c.pop.new.self.items ++ c.in-Some.wave ∷ [] = c.pop.ensures.items ∙ ap (λ o. c.pop.new.self.items ++ option_to_list o) c.in-Some.is in
    record {
      exact = all_front (IsExactWaveIn g.T.ClusterRun.design) c.pop.new.self.items (c.in-Some.wave ∷ []) (subst (AllByRecursion (IsExactWaveIn g.T.ClusterRun.design)) items c.loop-wave.invariant.exact);
      keeps = λ net. omega (arith, c.loop-wave.invariant.keeps net, c.adopt.ensures.keeps net);
      given = λ known above all.
          c.loop-wave.invariant.given known (λ net. omega (arith, c.adopt.ensures.keeps net, above net))
          (subst (AllByRecursion (IsGiven known)) (sym items) (all_push (IsGiven known) c.pop.new.self.items c.in-Some.wave all (λ base. omega (arith, c.adopt.ensures.given base, above c.in-Some.wave.net))));
    }

pub returns-clause-given : goal.returns-clause-given
returns-clause-given g c =
    let none : length c.loop-wave.waves.items ≡ 0 = search rules in
    c.loop-wave.invariant.given _ (λ net. omega arith) (all_none _ c.loop-wave.waves.items none)
