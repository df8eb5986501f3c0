use Rattle.std.proofs.Common.{◌≡◌, Some, eqb, sym, ◌∙◌, ap}
use Rattle.cmb_core_cluster.specs.Clusters.{output_slot}
use Rattle.cmb_core_cluster.specs.Step.{wave_at}
use Rattle.cmb_core_cluster.proofs.Inputs.{output_wave}
use Rattle.cmb_core_cluster.proofs.cluster.Cluster.is_done.Goals as goal

pub returns : goal.returns
returns c =
    let place : output_slot c.args.self.now c.args.net ≡ Some c.in-Some.slot = sym c.output_place.ensures.place ∙ c.in-Some.is in
    ap (λ t. eqb t c.self.inside.horizon) (c.clock.ensures ∙ ap (λ w. w.clock) (c.wave.ensures.wave ∙ output_wave c.args.self.now c.args.net c.in-Some.slot place))
    ∙ ap (λ s. eqb (wave_at c.args.self.now.waves c.args.net).clock s.horizon) c.self.view_is
