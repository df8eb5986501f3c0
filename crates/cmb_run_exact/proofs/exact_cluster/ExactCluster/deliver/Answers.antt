use Rattle.std.proofs.Common.{ℕ, ◌≤◌, rules, subst}
use Rattle.std.specs.List.{AllByRecursion}
use Rattle.std.proofs.lemmas.Result.{on_ok_weaker}
use Rattle.cmb_design_model.specs.Exact.{IsExactIn, IsExactWaveIn}
use Rattle.cmb_core_cluster.specs.Clusters.{Cluster}
use Rattle.cmb_core_cluster.specs.Step.{wave_at}
use Rattle.cmb_run_exact.proofs.ClusterFacts.{deliver_rises, delivers_exact, meets_old, passes}
use Rattle.cmb_run_exact.proofs.exact_cluster.ExactCluster.deliver.Goals as goal

pub returns-clause-taken : goal.returns-clause-taken
returns-clause-taken g c = search rules

pub returns-clause-passed : goal.returns-clause-passed
returns-clause-passed g c = λ there from to.
    let all : AllByRecursion (IsExactWaveIn g.T.ClusterRun.design) c.args.self.now.waves = subst (λ (s : Cluster). AllByRecursion (IsExactWaveIn g.T.ClusterRun.design) s.waves) c.self.view_is c.self.invariant.waves in
    let is = delivers_exact g.T.ClusterRun.design c.args.self.now c.args.posted.now all (subst (IsExactIn g.T.ClusterRun.design) c.piece.ensures.piece c.piece.ensures.exact) there from to in
    on_ok_weaker c.match-deliver.result (λ put. passes c.args.self.now c.args.posted.now there c.deliver.new.self.waves put) (returns-clause-taken g c _ is)

pub returns-clause-refused : goal.returns-clause-refused
returns-clause-refused g c = search rules

pub returns-clause-still : goal.returns-clause-still
returns-clause-still g c = λ to. returns-clause-refused g c _ (meets_old c.args.self.now c.args.posted.now c.requires.read c.requires.joined to)

pub returns-clause-rises : goal.returns-clause-rises
returns-clause-rises g c =
    let up = deliver_rises c.self.inside.cluster c.deliver.new.self c.piece.result.now c.deliver.result c.deliver.ensures.ok c.deliver.ensures.waves c.deliver.ensures.unchanged in
    subst (λ (s : Cluster). (net : ℕ) → (wave_at s.waves net).clock ≤ (wave_at c.deliver.new.self.waves net).clock) c.self.view_is up
