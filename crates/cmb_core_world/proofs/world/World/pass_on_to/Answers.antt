use Rattle.std.proofs.Common.{◌≡◌, ◌&&◌, ltb, true, ◌∷◌, [], length, rules, arith, sym, ◌∙◌, ap, refl}
use Rattle.cmb_core_protocol.specs.declared.event.Event.TheVariants.{Post, Deliver}
use Rattle.cmb_core_cluster.specs.Clustering.{has_input}
use Rattle.cmb_core_world.specs.Play.{shown}
use Rattle.cmb_core_world.specs.Rounds.{pass_on_events}
use Rattle.cmb_core_world.specs.World.{in_wave, out_wave}
use Rattle.cmb_core_world.proofs.RoundFacts.{on_err, stood}
use Rattle.cmb_core_world.proofs.world.World.pass_on_to.Goals as goal

pub returns-clause-events : goal.returns-clause-events
returns-clause-events c = record {
  kept = search rules;
  played = search rules;
  memory = λ design clustering of.
      let found = stood _ (in_wave (shown c.args.self.now) c.args.cluster c.args.net).clock c.in-Some.from (sym (c.behind.ensures design clustering of) ∙ c.in-Some.is) in
      let number : length c.args.self.now.posts ≡ c.len-number.result = omega (arith, ap (λ w. length w.posts) c.self.view_is) in
      let test : (has_input design clustering c.args.cluster c.args.net && ltb (in_wave (shown c.args.self.now) c.args.cluster c.args.net).clock (out_wave clustering (shown c.args.self.now) c.args.net).clock) ≡ true = found.0 in
      let events : pass_on_events design clustering c.args.net c.args.cluster (shown c.args.self.now) ≡ Post c.args.net c.in-Some.from ∷ Deliver c.args.cluster c.len-number.result ∷ [] = rw (test, found.1, number) refl in
      on_err c.make-2.result _ _ (λ same. record {
        done = Post c.args.net c.in-Some.from ∷ [];
        rest = Deliver c.args.cluster c.len-number.result ∷ [];
        all = sym events;
        here = ap shown same ∙ c.in_ok-make.ensures.played design clustering of;
      }) c.make-2.ensures.unchanged;
}
