use Rattle.std.proofs.Common.{◌≡◌, ◌<◌, [], ltb, true, false, Some, length, arith, refl, sym, ◌∙◌, ap}
use Rattle.std.specs.Prelude.{slice_get}
use Rattle.std.proofs.lemmas.Bool.{lt-ltb}
use Rattle.std.proofs.lemmas.List.{get_or_read}
use Rattle.std.proofs.lemmas.Option.{slice_get_within}
use Rattle.cmb_wave.specs.Calls.{promised}
use Rattle.cmb_core_world.specs.Play.{cluster_at, home_wave}
use Rattle.cmb_core_cluster.specs.Step.{wave_at}
use Rattle.cmb_core_world.proofs.Plays.{home_wave_at, no_home}
use Rattle.cmb_core_world.proofs.world.World.promise_of.Goals as goal

pub returns-in-Some : goal.returns-in-Some
returns-in-Some c =
    let place : slice_get c.args.self.now.assign c.args.net ≡ Some c.in-Some.cluster = sym c.home.ensures.place ∙ c.in-Some.is in
    let listed : c.in-Some.cluster < length c.self.inside.clusters.items = omega (arith, c.in-Some.ensures.there, ap (λ w. length w.clusters) c.self.view_is) in
    let lent = get_or_read _ _ _ listed c.index.ensures (record { horizon = 0; processes = []; waves = [] }) ∙ ap (λ w. cluster_at w c.in-Some.cluster) c.self.view_is in
    let same : wave_at c.index.result.now.waves c.args.net ≡ home_wave c.args.self.now c.args.net = ap (λ s. wave_at s.waves c.args.net) lent ∙ home_wave_at c.args.self.now c.args.net c.in-Some.cluster place in
    let there : ltb c.args.net (length c.args.self.now.assign) ≡ true = lt-ltb _ _ (slice_get_within c.args.self.now.assign c.args.net c.in-Some.cluster place) in
    rw there (ap (λ p. Some p) (c.promise.ensures.promised ∙ ap promised same))

pub returns-in-None : goal.returns-in-None
returns-in-None c =
    let absent : ltb c.args.net (length c.args.self.now.assign) ≡ false = no_home c.args.self.now c.args.net (sym c.home.ensures.place ∙ c.in-None.is) in
    rw absent refl
