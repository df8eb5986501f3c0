use Rattle.std.proofs.Common.{◌≡◌, sym, ◌∙◌, subst, rules}
use Rattle.cmb_core_cluster.specs.Clusters.{IsSound, is_complete}
use Rattle.cmb_core_cluster.proofs.OwnWaves.{own_known}
use Rattle.cmb_core_cluster.proofs.cluster.Cluster.complete.Goals as goal

pub returns-clause-known : goal.returns-clause-known
returns-clause-known c = λ design clustering cluster net of own all.
    let sound : IsSound c.args.self.now = subst IsSound c.self.view_is c.self.invariant.sound in
    let same : c.all_known.result ≡ is_complete c.args.self.now = search rules in
    own_known design clustering cluster c.args.self.now of sound.paired net own (sym same ∙ all)
