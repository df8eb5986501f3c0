use Rattle.std.proofs.Common.{rules, arith, ap}
use Rattle.cmb_core_world.specs.Play.{shown}
use Rattle.cmb_core_world.specs.Rounds.{step_event}
use Rattle.cmb_core_world.proofs.Turns.{turn_played, turn_begun, begun_none}
use Rattle.cmb_core_world.proofs.Plays.{nets_are}
use Rattle.cmb_core_world.proofs.world.World.step_each.Goals as goal
use Rattle.cmb_core_cluster.proofs.NetByNet.{at_err}

pub loop-net-preserved : goal.loop-net-preserved
loop-net-preserved c = record {
  kept = λ design clustering of. c.in_ok-make.ensures.kept design clustering (c.loop-net.invariant.kept design clustering of);
  played = λ design clustering of.
      turn_played design clustering step_event (shown c.args.self.now) (shown c.loop-net.self) (shown c.make.new.self) c.loop-net.net (c.loop-net.invariant.played design clustering of)
      (c.in_ok-make.ensures.played design clustering (c.loop-net.invariant.kept design clustering of));
}

pub returns-in_err-make : goal.returns-in_err-make
returns-in_err-make c = record {
  kept = search rules;
  played = search rules;
  memory = λ design clustering of.
      at_err c.from_residual.result _
      (turn_begun design clustering step_event (shown c.args.self.now) (shown c.loop-net.self) (shown c.make.new.self) c.loop-net.net (c.loop-net.invariant.played design clustering of) _ (omega (arith, c.loop-net-test.true, c.nets-net-end.ensures, nets_are design clustering c.args.self.now of))
      (begun_none design clustering (shown c.loop-net.self) (shown c.make.new.self) (step_event c.loop-net.net (shown c.loop-net.self)) (ap shown c.in_err-make.ensures.unchanged)));
}
