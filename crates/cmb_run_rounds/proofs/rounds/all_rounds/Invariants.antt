use Rattle.std.proofs.Common.{ℕ, ◌<◌, ◌≤◌}
use Rattle.cmb_core_protocol.specs.Run.{IsComplete}
use Rattle.cmb_run_rounds.specs.Inner.Rounds.{AreAt, AreHandsOf, AreKnownTo}
use Rattle.cmb_run_rounds.specs.RoundEvents.{clocks_of_rounds}
use Rattle.cmb_run_rounds.proofs.rounds.all_rounds.Given as goal

-- after so many rounds every clock is at that tick at least, the clocks are those of the machine after as many, and after none of them
-- that machine was complete
abbrev pub invariant-loop-tick : goal.invariant-loop-tick
invariant-loop-tick g l = record {
  kept : AreHandsOf g.T.ClusterRun.design g.T.ClusterRun.clustering l.hands;
  known : AreKnownTo g.T.ClusterRun.design g.T.ClusterRun.clustering l.tick l.hands;
  least : (fewer : ℕ) → 0 < fewer → fewer ≤ l.tick → IsComplete g.T.ClusterRun.design (clocks_of_rounds g.T.ClusterRun.design g.T.ClusterRun.clustering fewer) → ⊥;
  at : AreAt g.T.ClusterRun.design g.T.ClusterRun.clustering (clocks_of_rounds g.T.ClusterRun.design g.T.ClusterRun.clustering l.tick) l.hands;
}
