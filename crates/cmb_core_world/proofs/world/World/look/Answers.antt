use Rattle.std.proofs.Common.{◌≡◌, ◌<◌, Some, length, rules, arith, sym, ◌∙◌, ap}
use Rattle.std.specs.Prelude.{slice_get}
use Rattle.cmb_core_world.proofs.Plays.{look_plays, look_refuses}
use Rattle.cmb_core_world.proofs.world.World.look.Goals as goal

pub returns-in-Ok : goal.returns-in-Ok
returns-in-Ok c = record {
  played = λ design clustering of.
      let there : c.args.cluster < length c.args.self.now.clusters = omega (arith, ap (λ w. length w.clusters) c.self.view_is) in
      let made : slice_get c.args.self.now.promises c.args.number ≡ Some c.in-Some.promise = sym c.promised.ensures ∙ c.in-Some.is in
      look_plays design clustering c.args.self.now of c.args.cluster there c.args.number c.in-Some.promise made
      c.hear_in.new.self c.in-Ok.heard c.in-Ok.ensures.same c.in-Ok.ensures.answer c.in-Ok.ensures.waves;
  kept = search rules;
  unchanged = search rules;
  size = search rules;
}

pub returns-in-Err : goal.returns-in-Err
returns-in-Err c = record {
  played = λ design clustering of.
      let there : c.args.cluster < length c.args.self.now.clusters = omega (arith, ap (λ w. length w.clusters) c.self.view_is) in
      let made : slice_get c.args.self.now.promises c.args.number ≡ Some c.in-Some.promise = sym c.promised.ensures ∙ c.in-Some.is in
      look_refuses design clustering c.args.self.now of c.args.cluster there c.args.number c.in-Some.promise made
      c.hear_in.new.self c.in-Err.field-0 c.in-Err.ensures.answer c.in-Err.ensures.unchanged;
  kept = search rules;
  unchanged = search rules;
  size = search rules;
}
