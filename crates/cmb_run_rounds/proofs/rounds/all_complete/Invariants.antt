use Rattle.std.proofs.Common.{◌≡◌, ℕ, ◌<◌}
use Rattle.cmb_core_cluster.specs.Opened.{IsOwnNet}
use Rattle.cmb_run_rounds.specs.Inner.Rounds.{known_to}
use Rattle.cmb_run_rounds.proofs.rounds.all_complete.Given as goal

-- the workers that were looked at know what they drive to the end
abbrev pub invariant-loop-hand : goal.invariant-loop-hand
invariant-loop-hand g l = (k net : ℕ) → k < l.hand-index → k < g.T.ClusterRun.clustering.clusters → IsOwnNet g.T.ClusterRun.design g.T.ClusterRun.clustering k net → known_to l.fn.hands k net ≡ g.T.ClusterRun.design.horizon
