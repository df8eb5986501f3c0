use Rattle.std.proofs.Common.{set}
use Rattle.cmb_core_cluster.proofs.ClusterLemmas.{IsKept, kept_by_loan, kept_same}
use Rattle.cmb_core_cluster.proofs.cluster.Cluster.hear_at.Goals as goal

kept : (c : goal.After-self-1) → IsKept c.self.inside.horizon c.self.inside.processes.items c.self.inside.directory c.self.inside.waves.items (set c.self.inside.waves.items c.args.slot c.hear.new.self)
kept c = kept_by_loan _ _ _ _ _ c.args.slot c.index_mut.result.now c.hear.new.self c.self.view_is c.requires c.index_mut.ensures.value c.hear.ensures.net c.hear.ensures.base c.hear.ensures.later c.self.invariant.sound c.self.invariant.directory

pub invariant_of-self : goal.invariant_of-self
invariant_of-self c = let k = kept c in record { sound = k.sound; directory = k.listed }

pub returns-clause-same : goal.returns-clause-same
returns-clause-same c = kept_same _ _ _ _ _ _ c.self.view_is (kept c)
