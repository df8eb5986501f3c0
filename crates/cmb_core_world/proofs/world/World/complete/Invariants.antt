use Rattle.std.proofs.Common.{◌≡◌, ℕ, ◌<◌}
use Rattle.cmb_design_model.specs.Design.{Design}
use Rattle.cmb_core_cluster.specs.Clustering.{Clustering}
use Rattle.cmb_core_world.specs.Play.{IsWorldOf, shown}
use Rattle.cmb_core_world.specs.World.{out_wave}
use Rattle.cmb_core_world.proofs.world.World.complete.Given as goal

abbrev pub invariant-loop-net : goal.invariant-loop-net
invariant-loop-net l = (design : Design) (clustering : Clustering) → IsWorldOf design clustering l.self → (net : ℕ) → net < l.net → (out_wave clustering (shown l.self) net).clock ≡ design.horizon
