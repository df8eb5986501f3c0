use Rattle.std.proofs.Common.{sym, ◌∙◌, ap}
use Rattle.cmb_core_cluster.specs.Clusters.{wave_nets}
use Rattle.cmb_core_cluster.specs.Directory.{driven_among}
use Rattle.cmb_core_cluster.proofs.ReadFacts.{driven_nets, driven_is_own}
use Rattle.cmb_core_cluster.proofs.cluster.Cluster.driven.Goals as goal

pub returns-clause-nets : goal.returns-clause-nets
returns-clause-nets c =
    c.as_slice.ensures.value ∙ c.self.invariant.directory.driven ∙ ap (λ s. driven_among s.processes (wave_nets s.waves)) c.self.view_is ∙ sym (driven_nets c.args.self.now.processes c.args.self.now.waves)

pub returns-clause-own : goal.returns-clause-own
returns-clause-own c = λ design clustering cluster of.
    c.as_slice.ensures.value ∙ c.self.invariant.directory.driven ∙ ap (λ s. driven_among s.processes (wave_nets s.waves)) c.self.view_is ∙ driven_is_own design clustering cluster c.args.self.now of
