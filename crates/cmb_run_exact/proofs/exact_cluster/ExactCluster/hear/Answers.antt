use Rattle.std.proofs.Common.{◌≡◌, ℕ, ◌≤◌, Result, Ok, Err, arith, subst}
use Rattle.std.specs.Prelude.{OnOk, OnErr}
use Rattle.cmb_wave.specs.Calls.{heard_wave}
use Rattle.cmb_wave.specs.declared.level.Heard.{Heard}
use Rattle.cmb_wave.specs.declared.level.Promise.{Promise}
use Rattle.cmb_core_cluster.specs.Clusters.{Cluster}
use Rattle.cmb_core_cluster.specs.Step.{wave_at, with_wave}
use Rattle.cmb_core_cluster.specs.declared.delivery.Stranger.{Stranger}
use Rattle.cmb_run_exact.proofs.ClusterFacts.{hear_rises}
use Rattle.cmb_run_exact.proofs.exact_cluster.ExactCluster.hear.Goals as goal

either_way : (old new : Cluster) (promise : Promise) (r : Result Heard Stranger) → OnOk r (new.waves ≡ with_wave old.waves (heard_wave (wave_at old.waves promise.net) promise)) → OnErr r (new ≡ old)
    → (net : ℕ) → (wave_at old.waves net).clock ≤ (wave_at new.waves net).clock
either_way old new promise (Ok heard) put same net = rw put (hear_rises old.waves promise net)
either_way old new promise (Err e) put same net = rw same (omega arith)

pub returns-clause-rises : goal.returns-clause-rises
returns-clause-rises g c =
    let up = either_way c.self.inside.cluster c.hear.new.self c.args.promise c.hear.result c.hear.ensures.waves c.hear.ensures.unchanged in
    subst (λ (s : Cluster). (net : ℕ) → (wave_at s.waves net).clock ≤ (wave_at c.hear.new.self.waves net).clock) c.self.view_is up
