use Rattle.std.proofs.Common.{sym, ◌∙◌, ap}
use Rattle.cmb_core_cluster.specs.Clusters.{wave_nets}
use Rattle.cmb_core_cluster.specs.Directory.{given_among}
use Rattle.cmb_core_cluster.proofs.ReadFacts.{given_nets, given_is_read}
use Rattle.cmb_core_cluster.proofs.cluster.Cluster.inputs.Goals as goal

pub returns-clause-nets : goal.returns-clause-nets
returns-clause-nets c =
    c.as_slice.ensures.value ∙ c.self.invariant.directory.inputs ∙ ap (λ s. given_among s.processes (wave_nets s.waves)) c.self.view_is ∙ sym (given_nets c.args.self.now.processes c.args.self.now.waves)

pub returns-clause-read : goal.returns-clause-read
returns-clause-read c = λ design clustering cluster of.
    c.as_slice.ensures.value ∙ c.self.invariant.directory.inputs ∙ ap (λ s. given_among s.processes (wave_nets s.waves)) c.self.view_is ∙ given_is_read design clustering cluster c.args.self.now of
