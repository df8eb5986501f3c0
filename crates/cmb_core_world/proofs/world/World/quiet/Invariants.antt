use Rattle.std.proofs.Common.{◌≡◌, ℕ, ◌<◌, ◌≤◌, true}
use Rattle.cmb_design_model.specs.Design.{Design}
use Rattle.cmb_core_cluster.specs.Clustering.{Clustering, cluster_of, has_input}
use Rattle.cmb_core_world.specs.Play.{IsWorldOf, shown}
use Rattle.cmb_core_cluster.specs.Step.{step_reach}
use Rattle.cmb_core_world.specs.World.{in_wave, out_wave, waves_of}
use Rattle.cmb_core_world.proofs.world.World.quiet.Given as goal

abbrev pub invariant-loop-net : goal.invariant-loop-net
invariant-loop-net l = record {
  no_step : (design : Design) (clustering : Clustering) → IsWorldOf design clustering l.self → (net : ℕ) → net < l.net → step_reach design (waves_of (shown l.self) (cluster_of clustering net)) net ≤ (out_wave clustering (shown l.self) net).clock;
  passed_on : (design : Design) (clustering : Clustering) → IsWorldOf design clustering l.self → (net cluster : ℕ) → net < l.net → cluster < clustering.clusters → has_input design clustering cluster net ≡ true → (in_wave (shown l.self) cluster net).clock ≡ (out_wave clustering (shown l.self) net).clock;
}
