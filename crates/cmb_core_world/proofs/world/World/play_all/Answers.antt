use Rattle.std.proofs.Common.{◌≡◌, ◌∷◌, ◌++◌, ◌+◌, [], take, arith, sym, ◌∙◌, ap, subst}
use Rattle.std.proofs.lemmas.List.{take_all}
use Rattle.cmb_core_protocol.specs.Clocks.{start}
use Rattle.cmb_core_protocol.specs.Run.{clocks_after}
use Rattle.cmb_core_world.specs.Play.{shown}
use Rattle.cmb_core_world.specs.World.{WorldWaves, Shows}
use Rattle.cmb_core_world.proofs.Runs.{turn_world, turn_replies, run_from}
use Rattle.cmb_core_world.proofs.world.World.play_all.Goals as goal
use Rattle.cmb_core_cluster.proofs.NetByNet.{at_err}

pub loop-event-preserved : goal.loop-event-preserved
loop-event-preserved c = record {
  kept = λ design clustering of. c.play.ensures.kept design clustering (c.loop-event.invariant.kept design clustering of);
  world = λ design clustering of.
      turn_world design clustering (shown c.args.self.now) (shown c.loop-event.self) (shown c.play.new.self) c.args.events.now c.loop-event.event-index c.loop-event-test.true (c.loop-event.invariant.world design clustering of)
      c.play.result c.in_ok-listed.ensures.ok.1 (c.play.ensures.played design clustering (c.loop-event.invariant.kept design clustering of));
  replies = λ design clustering of.
      c.in_ok-push.ensures.items ∙ ap (λ r. c.loop-event.replies.items ++ r ∷ []) c.in_ok-listed.ensures.ok.0
      ∙ turn_replies design clustering (shown c.args.self.now) (shown c.loop-event.self) (shown c.play.new.self) c.args.events.now c.loop-event.event-index c.loop-event-test.true (c.loop-event.invariant.world design clustering of)
      c.play.result c.in_ok-listed.ensures.ok.1 (c.play.ensures.played design clustering (c.loop-event.invariant.kept design clustering of)) c.loop-event.replies.items (c.loop-event.invariant.replies design clustering of);
}

pub returns-in_err-push-clause-memory : goal.returns-in_err-push-clause-memory
returns-in_err-push-clause-memory c = λ design clustering of.
    at_err c.from_residual-in_err-push.result _ (
      c.loop-event.event-index + 1,
      turn_world design clustering (shown c.args.self.now) (shown c.loop-event.self) (shown c.play.new.self) c.args.events.now c.loop-event.event-index c.loop-event-test.true (c.loop-event.invariant.world design clustering of)
          c.play.result c.in_ok-listed.ensures.ok.1 (c.play.ensures.played design clustering (c.loop-event.invariant.kept design clustering of)),
    )

pub returns-clause-sequential : goal.returns-clause-sequential
returns-clause-sequential c = λ design clustering past of reached.
    let all : take c.loop-event.event-index c.args.events.now ≡ c.args.events.now = take_all c.loop-event.event-index c.args.events.now (omega arith) in
    rw all at (c.loop-event.invariant.replies design clustering of) ∙ (run_from design of.netlist clustering of.lawful (shown c.args.self.now) past c.args.events.now reached).1

pub returns-clause-exact : goal.returns-clause-exact
returns-clause-exact c = λ design clustering past of reached.
    let all : take c.loop-event.event-index c.args.events.now ≡ c.args.events.now = take_all c.loop-event.event-index c.args.events.now (omega arith) in
    let same = rw all at (c.loop-event.invariant.world design clustering of) in
    let P : WorldWaves → Type 0 = λ w. Shows design clustering w (clocks_after design clustering (clocks_after design clustering (start design clustering) past) c.args.events.now) in
    subst P (sym same) (run_from design of.netlist clustering of.lawful (shown c.args.self.now) past c.args.events.now reached).0
