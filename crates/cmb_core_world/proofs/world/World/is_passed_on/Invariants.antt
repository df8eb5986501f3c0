use Rattle.std.proofs.Common.{◌≡◌, ℕ, ◌<◌, true}
use Rattle.cmb_design_model.specs.Design.{Design}
use Rattle.cmb_core_cluster.specs.Clustering.{Clustering, has_input}
use Rattle.cmb_core_world.specs.Play.{IsWorldOf, shown}
use Rattle.cmb_core_world.specs.World.{in_wave, out_wave}
use Rattle.cmb_core_world.proofs.world.World.is_passed_on.Given as goal

abbrev pub invariant-loop-cluster : goal.invariant-loop-cluster
invariant-loop-cluster l = (design : Design) (clustering : Clustering) → IsWorldOf design clustering l.self → (cluster : ℕ) → cluster < l.cluster → has_input design clustering cluster l.net ≡ true → (in_wave (shown l.self) cluster l.net).clock ≡ (out_wave clustering (shown l.self) l.net).clock
