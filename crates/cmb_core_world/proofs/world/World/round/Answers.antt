use Rattle.std.proofs.Common.{refl, sym, ◌∙◌, ap, subst}
use Rattle.cmb_core_protocol.specs.Clocks.{Clocks, start}
use Rattle.cmb_core_protocol.specs.Run.{clocks_after}
use Rattle.cmb_core_world.specs.Play.{shown}
use Rattle.cmb_core_world.specs.Rounds.{step_events, passing_events, round_events}
use Rattle.cmb_core_world.specs.World.{WorldWaves, Shows, new_world, world_after}
use Rattle.cmb_core_protocol.proofs.Machine.{clocks_after-append}
use Rattle.cmb_core_world.proofs.RoundFacts.{round_clocks}
use Rattle.cmb_core_world.proofs.Runs.{together_after, together_reached}
use Rattle.cmb_core_world.proofs.Turns.{after_both, begun_second}
use Rattle.cmb_core_world.proofs.world.World.round.Goals as goal
use Rattle.cmb_core_cluster.proofs.NetByNet.{at_err}

pub returns-in_err-pass_on_each-clause-memory : goal.returns-in_err-pass_on_each-clause-memory
returns-in_err-pass_on_each-clause-memory c = λ design clustering of.
    let stepped = c.in_ok-step_each.ensures.played design clustering of in
    let passing = rw stepped at (c.in_err-pass_on_each.ensures.memory design clustering (c.in_ok-step_each.ensures.kept design clustering of)) in
    at_err c.from_residual-in_err-pass_on_each.result _
    (begun_second design clustering (shown c.args.self.now) (world_after design clustering (shown c.args.self.now) (step_events design clustering (shown c.args.self.now))) (shown c.pass_on_each.new.self)
    (step_events design clustering (shown c.args.self.now)) (passing_events design clustering (world_after design clustering (shown c.args.self.now) (step_events design clustering (shown c.args.self.now)))) refl passing)

pub returns-clause-played : goal.returns-clause-played
returns-clause-played c = λ design clustering of.
    let stepped = c.in_ok-step_each.ensures.played design clustering of in
    let passed = c.in_ok-pass_on_each.ensures.played design clustering (c.in_ok-step_each.ensures.kept design clustering of) in
    passed ∙ ap (λ w. world_after design clustering w (passing_events design clustering w)) stepped
    ∙ sym (after_both design clustering (shown c.args.self.now) (step_events design clustering (shown c.args.self.now)) (passing_events design clustering (world_after design clustering (shown c.args.self.now) (step_events design clustering (shown c.args.self.now)))))

pub returns-clause-reached : goal.returns-clause-reached
returns-clause-reached c = λ design clustering past of reached.
    returns-clause-played c design clustering of ∙ ap (λ w. world_after design clustering w (round_events design clustering (shown c.args.self.now))) reached
    ∙ sym (after_both design clustering (new_world design clustering) past (round_events design clustering (shown c.args.self.now)))

pub returns-clause-sequential : goal.returns-clause-sequential
returns-clause-sequential c = λ design clustering past of reached.
    clocks_after-append design clustering (start design clustering) past (round_events design clustering (shown c.args.self.now))
    ∙ round_clocks design of.netlist clustering of.lawful (shown c.args.self.now) (clocks_after design clustering (start design clustering) past) (together_reached design of.netlist clustering of.lawful (shown c.args.self.now) past reached)

pub returns-clause-exact : goal.returns-clause-exact
returns-clause-exact c = λ design clustering past of reached.
    let clocks : Clocks = clocks_after design clustering (start design clustering) past in
    let t = together_reached design of.netlist clustering of.lawful (shown c.args.self.now) past reached in
    let after = together_after design of.netlist clustering of.lawful (round_events design clustering (shown c.args.self.now)) (shown c.args.self.now) clocks t in
    let P : WorldWaves → Type 0 = λ w. Shows design clustering w (clocks_after design clustering clocks (round_events design clustering (shown c.args.self.now))) in
    let Q : Clocks → Type 0 = λ k. Shows design clustering (shown c.pass_on_each.new.self) k in
    subst Q (round_clocks design of.netlist clustering of.lawful (shown c.args.self.now) clocks t) (subst P (sym (returns-clause-played c design clustering of)) after.shows)
