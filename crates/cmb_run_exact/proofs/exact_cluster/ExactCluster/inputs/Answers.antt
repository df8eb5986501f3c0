use Rattle.std.proofs.Common.{All, IsSome, subst}
use Rattle.cmb_core_cluster.specs.Clusters.{Cluster, input_slot}
use Rattle.cmb_run_exact.proofs.ClusterFacts.{all_given}
use Rattle.cmb_run_exact.proofs.exact_cluster.ExactCluster.inputs.Goals as goal

pub returns-clause-given : goal.returns-clause-given
returns-clause-given g c =
    let number = c.self.inside.number in
    let all = all_given g.T.ClusterRun.design g.T.ClusterRun.clustering number c.self.inside.cluster c.self.invariant.of c.inputs.result.now
    (c.inputs.ensures.read g.T.ClusterRun.design g.T.ClusterRun.clustering number c.self.invariant.of) in
    subst (λ (s : Cluster). All (λ net. IsSome (input_slot s net)) c.inputs.result.now) c.self.view_is all
