use Rattle.std.proofs.Common.{◌≡◌, [], ◌∷◌, ◌++◌, List, ap, subst, ◌∙◌}
use Rattle.std.specs.Prelude.{option_to_list}
use Rattle.cmb_run_text.specs.Collector.{wave_of}
use Rattle.cmb_run_rounds.specs.Inner.Rounds.{RoundWorker}
use Rattle.cmb_run_rounds.proofs.RoundFacts.{AreHandedOver, handed_more}
use Rattle.cmb_run_rounds.proofs.rounds.hand_over_all.Goals as goal

pub loop-hand-preserved : goal.loop-hand-preserved
loop-hand-preserved g c =
    let items : c.loop-hand.hands.items ≡ c.pop.new.self.items ++ c.in-Some.hand ∷ [] = c.pop.ensures.items ∙ ap (λ o. c.pop.new.self.items ++ option_to_list o) c.in-Some.is in
    let P : List RoundWorker → Type 0 = λ hs. AreHandedOver g.T.ClusterRun.design g.T.ClusterRun.clustering c.args.hands.items hs (λ net. (wave_of c.loop-hand.collected.waves net).clock) in
    handed_more g.T.ClusterRun.design g.T.ClusterRun.clustering c.args.hands.items c.pop.new.self.items c.in-Some.hand (λ net. (wave_of c.loop-hand.collected.waves net).clock) _
    c.requires.hands c.requires.known (subst P items c.loop-hand.invariant) c.hand_over.ensures.keeps c.hand_over.ensures.given
