use Rattle.std.proofs.Common.{◌≡◌, Some, sym, ◌∙◌, ap}
use Rattle.cmb_core_cluster.specs.Clusters.{output_slot, told_at}
use Rattle.cmb_core_cluster.proofs.Inputs.{output_wave}
use Rattle.cmb_core_cluster.proofs.cluster.Cluster.out_clock.Goals as goal

pub returns-in-Some : goal.returns-in-Some
returns-in-Some c =
    let place : output_slot c.args.self.now c.args.net ≡ Some c.in-Some.slot = sym c.output_place.ensures.place ∙ c.in-Some.is in
    ap (λ t. Some t) (c.clock.ensures ∙ ap (λ w. w.clock) (c.wave.ensures.wave ∙ output_wave c.args.self.now c.args.net c.in-Some.slot place)) ∙ sym (ap (told_at (λ w. w.clock) c.args.self.now c.args.net) place)
