use Rattle.std.proofs.Common.{length}
use Rattle.cmb_run_text.specs.Collector.{wave_of}
use Rattle.cmb_run_rounds.proofs.RoundFacts.{AreHandedOver}
use Rattle.cmb_run_rounds.proofs.rounds.hand_over_all.Given as goal

abbrev pub invariant-loop-hand : goal.invariant-loop-hand
invariant-loop-hand g l = AreHandedOver g.T.ClusterRun.design g.T.ClusterRun.clustering l.initial.hands.items l.hands.items (λ net. (wave_of l.collected.waves net).clock)

abbrev pub decreases-loop-hand : goal.decreases-loop-hand
decreases-loop-hand g l = length l.hands.items
