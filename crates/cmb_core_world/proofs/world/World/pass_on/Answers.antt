use Rattle.std.proofs.Common.{rules, arith, ◌∙◌}
use Rattle.cmb_core_world.specs.Play.{shown}
use Rattle.cmb_core_world.specs.Rounds.{pass_on_events}
use Rattle.cmb_core_world.proofs.Turns.{turn_played, turn_begun}
use Rattle.cmb_core_world.proofs.world.World.pass_on.Goals as goal
use Rattle.cmb_core_cluster.proofs.NetByNet.{at_err}

pub loop-cluster-preserved : goal.loop-cluster-preserved
loop-cluster-preserved c = record {
  kept = λ design clustering of. c.in_ok-pass_on_to.ensures.events.kept design clustering (c.loop-cluster.invariant.kept design clustering of);
  played = λ design clustering of.
      turn_played design clustering (pass_on_events design clustering c.args.net) (shown c.args.self.now) (shown c.loop-cluster.self) (shown c.pass_on_to.new.self) c.loop-cluster.cluster (c.loop-cluster.invariant.played design clustering of)
      (c.in_ok-pass_on_to.ensures.events.played design clustering (c.loop-cluster.invariant.kept design clustering of));
  same = record { nets = c.in_ok-pass_on_to.ensures.same.nets ∙ c.loop-cluster.invariant.same.nets; clusters = c.in_ok-pass_on_to.ensures.same.clusters ∙ c.loop-cluster.invariant.same.clusters };
}

pub returns-in_err-pass_on_to-clause-events : goal.returns-in_err-pass_on_to-clause-events
returns-in_err-pass_on_to-clause-events c = record {
  kept = search rules;
  played = search rules;
  memory = λ design clustering of.
      at_err c.from_residual.result _
      (turn_begun design clustering (pass_on_events design clustering c.args.net) (shown c.args.self.now) (shown c.loop-cluster.self) (shown c.pass_on_to.new.self) c.loop-cluster.cluster (c.loop-cluster.invariant.played design clustering of) _ (omega (arith, c.loop-cluster-test.true, c.count-cluster-end.ensures, of.clusters))
      (c.in_err-pass_on_to.ensures.events.memory design clustering (c.loop-cluster.invariant.kept design clustering of)));
}
