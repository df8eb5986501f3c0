use Rattle.std.proofs.Common.{rules, arith, ◌∙◌}
use Rattle.cmb_core_world.specs.Play.{shown}
use Rattle.cmb_core_world.specs.Rounds.{net_events}
use Rattle.cmb_core_world.proofs.Turns.{turn_played, turn_begun}
use Rattle.cmb_core_world.proofs.Plays.{nets_are}
use Rattle.cmb_core_world.proofs.world.World.pass_on_each.Goals as goal
use Rattle.cmb_core_cluster.proofs.NetByNet.{at_err}

pub loop-net-preserved : goal.loop-net-preserved
loop-net-preserved c = record {
  kept = λ design clustering of. c.in_ok-pass_on.ensures.events.kept design clustering (c.loop-net.invariant.kept design clustering of);
  played = λ design clustering of.
      turn_played design clustering (net_events design clustering) (shown c.args.self.now) (shown c.loop-net.self) (shown c.pass_on.new.self) c.loop-net.net (c.loop-net.invariant.played design clustering of)
      (c.in_ok-pass_on.ensures.events.played design clustering (c.loop-net.invariant.kept design clustering of));
  same = record { nets = c.in_ok-pass_on.ensures.same.nets ∙ c.loop-net.invariant.same.nets; clusters = c.in_ok-pass_on.ensures.same.clusters ∙ c.loop-net.invariant.same.clusters };
}

pub returns-in_err-pass_on : goal.returns-in_err-pass_on
returns-in_err-pass_on c = record {
  kept = search rules;
  played = search rules;
  memory = λ design clustering of.
      at_err c.from_residual.result _
      (turn_begun design clustering (net_events design clustering) (shown c.args.self.now) (shown c.loop-net.self) (shown c.pass_on.new.self) c.loop-net.net (c.loop-net.invariant.played design clustering of) _ (omega (arith, c.loop-net-test.true, c.nets-net-end.ensures, nets_are design clustering c.args.self.now of))
      (c.in_err-pass_on.ensures.events.memory design clustering (c.loop-net.invariant.kept design clustering of)));
}
