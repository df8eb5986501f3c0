use Rattle.std.proofs.Common.{◌≡◌, ◌<◌, [], length, arith, ◌∙◌, ap}
use Rattle.std.proofs.lemmas.List.{get_or_read}
use Rattle.cmb_core_cluster.specs.Clusters.{told_at, input_slot}
use Rattle.cmb_core_world.specs.Play.{cluster_at}
use Rattle.cmb_core_world.proofs.Plays.{known_in_is}
use Rattle.cmb_core_world.proofs.world.World.in_clock.Goals as goal

pub returns-then-place-len : goal.returns-then-place-len
returns-then-place-len c = record {
  known = λ design clustering of.
      let listed : c.args.cluster < length c.self.inside.clusters.items = omega arith in
      let there : c.args.cluster < length c.args.self.now.clusters = omega (arith, ap (λ w. length w.clusters) c.self.view_is) in
      let lent : c.index.result.now ≡ cluster_at c.args.self.now c.args.cluster =
      get_or_read _ _ _ listed c.index.ensures (record { horizon = 0; processes = []; waves = [] }) ∙ ap (λ w. cluster_at w c.args.cluster) c.self.view_is
      in
      c.in_clock.ensures ∙ ap (λ s. told_at (λ wave. wave.clock) s c.args.net (input_slot s c.args.net)) lent
      ∙ known_in_is design clustering c.args.self.now of c.args.cluster there c.args.net;
}
