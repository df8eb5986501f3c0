use Rattle.std.proofs.Common.{◌<◌, refl, arith}
use Rattle.cmb_design_model.specs.Exact.{nets_of}
use Rattle.cmb_core_world.specs.Play.{shown}
use Rattle.cmb_core_world.specs.Rounds.{IsQuietWorld}
use Rattle.cmb_core_cluster.proofs.Homes.{input_there}
use Rattle.cmb_core_world.proofs.Plays.{nets_are}
use Rattle.cmb_core_world.proofs.RoundFacts.{quiet_reached}
use Rattle.cmb_core_world.proofs.world.World.quiet.Goals as goal

pub returns-clause-quiet : goal.returns-clause-quiet
returns-clause-quiet c = λ design clustering of. (
  λ yes. record {
    no_step = λ net h. c.loop-net.invariant.no_step design clustering of net (omega (arith, c.loop-net-test.false, c.nets-net-end.ensures, nets_are design clustering c.args.self.now of));
    passed_on = λ cluster net inside reads.
        let there : net < nets_of design = input_there design clustering cluster net of.netlist reads in
        c.loop-net.invariant.passed_on design clustering of net cluster (omega (arith, there, c.loop-net-test.false, c.nets-net-end.ensures, nets_are design clustering c.args.self.now of)) inside reads;
  },
  λ quiet. refl,
)

pub returns-clause-complete : goal.returns-clause-complete
returns-clause-complete c = λ design clustering past of reached yes.
    let quiet : IsQuietWorld design clustering (shown c.args.self.now) = (returns-clause-quiet c design clustering of).0 yes in
    quiet_reached design of.netlist clustering of.lawful (shown c.args.self.now) past reached quiet
