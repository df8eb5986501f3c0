use Rattle.std.proofs.Common.{◌≡◌, ◌≤◌, ℕ, sym, ap, subst}
use Rattle.std.specs.List.{AllByRecursion}
use Rattle.cmb_wave.specs.Wave.{Wave}
use Rattle.cmb_core_cluster.specs.Clusters.{Cluster}
use Rattle.cmb_core_cluster.specs.Opened.{IsClusterOf}
use Rattle.cmb_core_cluster.specs.Step.{wave_at}
use Rattle.cmb_core_cluster.proofs.Steps.{wave_at-net}
use Rattle.cmb_run_text.specs.Collector.{wave_of}
use Rattle.cmb_run_rounds.specs.Inner.Rounds.{RoundWorker}
use Rattle.cmb_run_rounds.proofs.HandFacts.{own_among}
use Rattle.cmb_run_rounds.proofs.round_worker.RoundWorker.hand_over.Goals as goal

pub returns-clause-given : goal.returns-clause-given
returns-clause-given g c = λ worker net of own.
    let same : c.self.inside.cluster ≡ c.args.self.cluster = ap (λ (h : RoundWorker). h.cluster) c.self.view_is in
    let inside : IsClusterOf g.T.ClusterRun.design g.T.ClusterRun.clustering worker c.self.inside.cluster = subst (λ (s : Cluster). IsClusterOf g.T.ClusterRun.design g.T.ClusterRun.clustering worker s) (sym same) of in
    let P : Wave → Type 0 = λ wave. wave.base ≡ 0 → wave.clock ≤ (wave_of c.adopt_all.new.self.waves wave.net).clock in
    let all : AllByRecursion P c.self.inside.cluster.waves = subst (AllByRecursion P) c.into_waves.ensures.waves c.adopt_all.ensures.given in
    let low = own_among g.T.ClusterRun.design g.T.ClusterRun.clustering worker c.self.inside.cluster inside net own P all (c.into_waves.ensures.whole worker net inside own) in
    let Q : ℕ → Type 0 = λ n. (wave_at c.self.inside.cluster.waves net).clock ≤ (wave_of c.adopt_all.new.self.waves n).clock in
    let R : Cluster → Type 0 = λ s. (wave_at s.waves net).clock ≤ (wave_of c.adopt_all.new.self.waves net).clock in
    subst R same (subst Q (wave_at-net c.self.inside.cluster.waves net) low)
