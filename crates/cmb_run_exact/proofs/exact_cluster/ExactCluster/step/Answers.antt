use Rattle.std.proofs.Common.{ℕ, ◌≤◌, arith, sym, ◌∙◌, ap, subst}
use Rattle.cmb_core_cluster.specs.Clusters.{Cluster}
use Rattle.cmb_core_cluster.specs.Opened.{IsClusterOf, own_nets}
use Rattle.cmb_core_cluster.specs.Step.{wave_at}
use Rattle.cmb_core_cluster.specs.Sweep.{stepped_waves}
use Rattle.cmb_core_cluster.proofs.TrimLaws.{trimmed_clock}
use Rattle.cmb_run_exact.proofs.ClusterFacts.{step_all_rises}
use Rattle.cmb_run_exact.proofs.exact_cluster.ExactCluster.step.Goals as goal
use Rattle.cmb_run_exact.proofs.exact_cluster.ExactCluster.step.Goals.{else-rose-via-then-rose+then-self-gt0+else-self-inputs, else-rose-via-then-rose+else-self-gt0, else-rose-via-else-rose}

pub returns-then-self-inputs-clause-clocks : goal.returns-then-self-inputs-clause-clocks
returns-then-self-inputs-clause-clocks g c = λ cluster net of.
    let own = own_nets g.T.ClusterRun.design g.T.ClusterRun.clustering cluster in
    let inside : IsClusterOf g.T.ClusterRun.design g.T.ClusterRun.clustering cluster c.self.inside.cluster = subst (λ (s : Cluster). IsClusterOf g.T.ClusterRun.design g.T.ClusterRun.clustering cluster s) (sym c.self.view_is) of in
    ap (λ (s : Cluster). (wave_at s.waves net).clock) c.trim.ensures.trimmed ∙ trimmed_clock c.step_all.new.self net
    ∙ ap (λ ws. (wave_at ws net).clock) (c.in_ok-rose.ensures.waves g.T.ClusterRun.design g.T.ClusterRun.clustering cluster inside)
    ∙ ap (λ (s : Cluster). (wave_at (stepped_waves g.T.ClusterRun.design s.waves own) net).clock) c.self.view_is

pub returns-in_err-rose-clause-rises : goal.returns-in_err-rose-clause-rises
returns-in_err-rose-clause-rises g c =
    let of = c.self.invariant.of in
    let up = step_all_rises g.T.ClusterRun.design (own_nets g.T.ClusterRun.design g.T.ClusterRun.clustering c.self.inside.number) c.self.inside.cluster.waves c.step_all.new.self.waves c.step_all.result
    (c.step_all.ensures.waves g.T.ClusterRun.design g.T.ClusterRun.clustering c.self.inside.number of) (c.step_all.ensures.memory g.T.ClusterRun.design g.T.ClusterRun.clustering c.self.inside.number of) in
    subst (λ (s : Cluster). (net : ℕ) → (wave_at s.waves net).clock ≤ (wave_at c.step_all.new.self.waves net).clock) c.self.view_is up

pub returns-then-self-inputs-clause-rises : goal.returns-then-self-inputs-clause-rises
returns-then-self-inputs-clause-rises g c =
    let of = c.self.invariant.of in
    let up = step_all_rises g.T.ClusterRun.design (own_nets g.T.ClusterRun.design g.T.ClusterRun.clustering c.self.inside.number) c.self.inside.cluster.waves c.step_all.new.self.waves c.step_all.result
    (c.step_all.ensures.waves g.T.ClusterRun.design g.T.ClusterRun.clustering c.self.inside.number of) (c.step_all.ensures.memory g.T.ClusterRun.design g.T.ClusterRun.clustering c.self.inside.number of) in
    let further : (net : ℕ) → (wave_at c.self.inside.cluster.waves net).clock ≤ (wave_at c.trim.new.self.waves net).clock = λ net.
    omega (arith, up net, ap (λ (s : Cluster). (wave_at s.waves net).clock) c.trim.ensures.trimmed ∙ trimmed_clock c.step_all.new.self net) in
    subst (λ (s : Cluster). (net : ℕ) → (wave_at s.waves net).clock ≤ (wave_at c.trim.new.self.waves net).clock) c.self.view_is further

pub returns-else-rose-clause-rises : goal.returns-else-rose-clause-rises
returns-else-rose-clause-rises g c =
    let of = c.self.invariant.of in
    let up = step_all_rises g.T.ClusterRun.design (own_nets g.T.ClusterRun.design g.T.ClusterRun.clustering c.self.inside.number) c.self.inside.cluster.waves c.step_all.new.self.waves c.step_all.result
    (c.step_all.ensures.waves g.T.ClusterRun.design g.T.ClusterRun.clustering c.self.inside.number of) (c.step_all.ensures.memory g.T.ClusterRun.design g.T.ClusterRun.clustering c.self.inside.number of) in
    let stepped : (net : ℕ) → (wave_at c.args.self.now.waves net).clock ≤ (wave_at c.step_all.new.self.waves net).clock =
    subst (λ (s : Cluster). (net : ℕ) → (wave_at s.waves net).clock ≤ (wave_at c.step_all.new.self.waves net).clock) c.self.view_is up in
    let P : Cluster → Type 0 = λ s. (net : ℕ) → (wave_at c.args.self.now.waves net).clock ≤ (wave_at s.waves net).clock in
    elim c.else-rose.branch [
      | else-rose-via-then-rose+then-self-gt0+else-self-inputs w ↦ subst P (sym w.self-is) stepped
      | else-rose-via-then-rose+else-self-gt0 w ↦ subst P (sym w.self-is) stepped
      | else-rose-via-else-rose w ↦ subst P (sym w.self-is) stepped
    ]
