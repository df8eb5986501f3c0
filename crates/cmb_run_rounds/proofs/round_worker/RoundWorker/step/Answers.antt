use Rattle.std.proofs.Common.{ap}
use Rattle.cmb_run_rounds.specs.Inner.Rounds.{RoundWorker}
use Rattle.cmb_run_rounds.proofs.HandFacts.{swept_as, whole_swept}
use Rattle.cmb_run_rounds.proofs.round_worker.RoundWorker.step.Goals as goal

pub returns-then-complete-clause-swept : goal.returns-then-complete-clause-swept
returns-then-complete-clause-swept g c =
    whole_swept g.T.ClusterRun.design g.T.ClusterRun.clustering c.self.inside.cluster c.args.self.now.cluster (ap (λ (h : RoundWorker). h.cluster) c.self.view_is)
    (λ cluster net of own. c.complete.ensures.known cluster net of own c.if-complete.true)

pub returns-then-branch-clause-swept : goal.returns-then-branch-clause-swept
returns-then-branch-clause-swept g c =
    swept_as g.T.ClusterRun.design g.T.ClusterRun.clustering _ _ c.step.new.self.waves (ap (λ (h : RoundWorker). h.cluster) c.self.view_is) c.in_ok-step.ensures.clocks

pub returns-else-branch-clause-swept : goal.returns-else-branch-clause-swept
returns-else-branch-clause-swept g c =
    swept_as g.T.ClusterRun.design g.T.ClusterRun.clustering _ _ c.step.new.self.waves (ap (λ (h : RoundWorker). h.cluster) c.self.view_is) c.in_ok-step.ensures.clocks
