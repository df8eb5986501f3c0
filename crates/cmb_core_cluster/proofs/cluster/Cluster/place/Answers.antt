use Rattle.std.proofs.Common.{None, get_or, sym, ◌∙◌, ap}
use Rattle.cmb_core_cluster.specs.Rows.{slot_of}
use Rattle.cmb_core_cluster.proofs.ClusterLemmas.{slot_place}
use Rattle.cmb_core_cluster.proofs.Slots.{slot_there}
use Rattle.cmb_core_cluster.proofs.cluster.Cluster.place.Goals as goal

pub returns-in-Some-clause-place : goal.returns-in-Some-clause-place
returns-in-Some-clause-place c =
    sym c.in-Some.is ∙ c.place_of.ensures ∙ ap (λ ps. get_or ps c.args.net None) c.deref.ensures.value ∙ c.self.invariant.directory.places c.args.net
    ∙ sym (slot_place c.self.inside.waves.items c.args.net) ∙ ap (λ s. slot_of s.waves c.args.net) c.self.view_is

pub returns-in-Some-clause-there : goal.returns-in-Some-clause-there
returns-in-Some-clause-there c = slot_there c.args.self.now.waves c.args.net c.in-Some.slot (sym (returns-in-Some-clause-place c))

pub returns-in-None-clause-place : goal.returns-in-None-clause-place
returns-in-None-clause-place c =
    sym c.in-None.is ∙ c.place_of.ensures ∙ ap (λ ps. get_or ps c.args.net None) c.deref.ensures.value ∙ c.self.invariant.directory.places c.args.net
    ∙ sym (slot_place c.self.inside.waves.items c.args.net) ∙ ap (λ s. slot_of s.waves c.args.net) c.self.view_is
