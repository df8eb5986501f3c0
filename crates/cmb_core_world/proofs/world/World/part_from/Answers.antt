use Rattle.std.proofs.Common.{◌≡◌, ◌<◌, [], Some, length, arith, sym, ◌∙◌, ap, subst}
use Rattle.std.specs.Prelude.{IfOk, slice_get}
use Rattle.std.proofs.lemmas.List.{get_or_read}
use Rattle.cmb_wave.specs.Calls.{cut}
use Rattle.cmb_wave.specs.Wave.{Wave}
use Rattle.cmb_core_world.specs.Play.{cluster_at, home_wave}
use Rattle.cmb_core_cluster.specs.Step.{wave_at}
use Rattle.cmb_core_world.proofs.Plays.{home_wave_at}
use Rattle.cmb_core_world.proofs.world.World.part_from.Goals as goal
use Rattle.cmb_core_world.proofs.world.World.part_from.Goals.{After-post}

-- the wave that is asked
same : (c : After-post) → wave_at c.index.result.now.waves c.args.net ≡ home_wave c.args.self.now c.args.net
same c =
    let place : slice_get c.args.self.now.assign c.args.net ≡ Some c.in-Some.cluster = sym c.home.ensures.place ∙ c.in-Some.is in
    let listed : c.in-Some.cluster < length c.self.inside.clusters.items = omega (arith, c.in-Some.ensures.there, ap (λ w. length w.clusters) c.self.view_is) in
    let lent = get_or_read _ _ _ listed c.index.ensures (record { horizon = 0; processes = []; waves = [] }) ∙ ap (λ w. cluster_at w c.in-Some.cluster) c.self.view_is in
    ap (λ s. wave_at s.waves c.args.net) lent ∙ home_wave_at c.args.self.now c.args.net c.in-Some.cluster place

pub returns-clause-cut : goal.returns-clause-cut
returns-clause-cut c =
    let P : Wave → Type 0 = λ v. IfOk c.post.result (λ piece. piece ≡ cut v c.args.from) in
    subst P (same c) c.post.ensures.cut

pub returns-clause-idle : goal.returns-clause-idle
returns-clause-idle c = λ e. c.post.ensures.idle (e ∙ ap (λ w. w.clock) (sym (same c)))
