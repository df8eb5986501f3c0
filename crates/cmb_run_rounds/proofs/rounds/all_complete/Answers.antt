use Rattle.std.proofs.Common.{◌≡◌, ◌∙◌, ◌<◌, arith, length, sym, subst, true≢false}
use Rattle.cmb_core_cluster.specs.Opened.{IsClusterOf}
use Rattle.cmb_core_cluster.specs.Step.{wave_at}
use Rattle.cmb_run_rounds.specs.Inner.Rounds.{RoundWorker, hand_at}
use Rattle.cmb_run_rounds.proofs.RoundFacts.{complete_own, nth_any}
use Rattle.cmb_run_rounds.proofs.rounds.all_complete.Goals as goal

pub returns-then-not-complete : goal.returns-then-not-complete
returns-then-not-complete g c = (
  (λ no. absurd (true≢false (sym no))),
  (λ all.
      let inside : c.loop-hand.hand-index < length c.args.hands.now = omega (arith, c.loop-hand-test.true, c.loop-hand.auto.hand-index-end) in
      let here : c.hand-item.result ≡ hand_at c.args.hands.now c.loop-hand.hand-index = c.hand-item.is ∙ nth_any c.args.hands.now c.loop-hand.hand-index _ inside in
      let of : IsClusterOf g.T.ClusterRun.design g.T.ClusterRun.clustering c.loop-hand.hand-index c.hand-item.result.cluster =
      subst (λ (h : RoundWorker). IsClusterOf g.T.ClusterRun.design g.T.ClusterRun.clustering c.loop-hand.hand-index h.cluster) (sym here) (c.requires.each c.loop-hand.hand-index (omega (arith, inside, c.requires.count)))
      in
      let known = (c.complete.ensures c.loop-hand.hand-index of).1 (λ net own.
      subst (λ (h : RoundWorker). (wave_at h.cluster.waves net).clock ≡ g.T.ClusterRun.design.horizon) (sym here)
      (complete_own g.T.ClusterRun.design g.T.ClusterRun.clustering c.args.hands.now c.requires all c.loop-hand.hand-index net own)) in
      absurd (true≢false (sym known ∙ c.if-not-complete.true))),
)
