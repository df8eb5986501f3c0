use Rattle.std.proofs.Common.{◌≡◌, ◌∙◌, ap, sym, subst}
use Rattle.cmb_core_cluster.specs.Clusters.{Cluster}
use Rattle.cmb_core_cluster.specs.Opened.{IsClusterOf}
use Rattle.cmb_core_cluster.proofs.OwnWaves.{known_complete}
use Rattle.cmb_run_rounds.specs.Inner.Rounds.{RoundWorker}
use Rattle.cmb_run_rounds.proofs.round_worker.RoundWorker.complete.Goals as goal

pub returns : goal.returns
returns g c = λ worker of.
    let same : c.self.inside.cluster ≡ c.args.self.now.cluster = ap (λ (h : RoundWorker). h.cluster) c.self.view_is in
    let inside : IsClusterOf g.T.ClusterRun.design g.T.ClusterRun.clustering worker c.self.inside.cluster = subst (λ (s : Cluster). IsClusterOf g.T.ClusterRun.design g.T.ClusterRun.clustering worker s) (sym same) of in
    rw (sym same) (
      (λ all net own. c.complete.ensures.known worker net inside own all),
      (λ known. c.complete.ensures.complete ∙ known_complete g.T.ClusterRun.design g.T.ClusterRun.clustering worker c.self.inside.cluster inside known),
    )
