use Rattle.std.proofs.Common.{subst}
use Rattle.cmb_core_cluster.specs.Clusters.{IsSound}
use Rattle.cmb_core_cluster.proofs.OwnWaves.{own_whole}
use Rattle.cmb_core_cluster.proofs.cluster.Cluster.into_waves.Goals as goal

pub returns-clause-whole : goal.returns-clause-whole
returns-clause-whole c = λ design clustering cluster net of own.
    let sound : IsSound c.args.self = subst IsSound c.self.view_is c.self.invariant.sound in
    own_whole design clustering cluster c.args.self of sound.paired net own sound
