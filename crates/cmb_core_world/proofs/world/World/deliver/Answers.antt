use Rattle.std.proofs.Common.{◌≡◌, ◌<◌, [], Some, length, rules, arith, ap}
use Rattle.std.specs.Prelude.{slice_get}
use Rattle.std.proofs.lemmas.Option.{slice_get-get_or}
use Rattle.cmb_core_world.specs.Play.{post_at}
use Rattle.cmb_core_world.proofs.Plays.{deliver_plays, deliver_refuses}
use Rattle.cmb_core_world.proofs.world.World.deliver.Goals as goal

pub returns-in-Ok : goal.returns-in-Ok
returns-in-Ok c = record {
  played = λ design clustering of.
      let there : c.args.cluster < length c.args.self.now.clusters = omega (arith, ap (λ w. length w.clusters) c.self.view_is) in
      let listed : c.args.number < length c.args.self.now.posts = omega (arith, ap (λ w. length w.posts) c.self.view_is) in
      let posted : slice_get c.args.self.now.posts c.args.number ≡ Some (post_at c.args.self.now c.args.number) = slice_get-get_or c.args.self.now.posts c.args.number (record { net = 0; from = 0; to = 0; changes = [] }) listed in
      deliver_plays design clustering c.args.self.now of c.args.cluster there c.args.number (post_at c.args.self.now c.args.number) posted
      c.deliver_in.new.self c.in-Ok.clock c.in-Ok.ensures.same c.in-Ok.ensures.ok c.in-Ok.ensures.waves c.in-Ok.ensures.clock;
  kept = search rules;
  unchanged = search rules;
  size = search rules;
}

pub returns-in-Err : goal.returns-in-Err
returns-in-Err c = record {
  played = λ design clustering of.
      let there : c.args.cluster < length c.args.self.now.clusters = omega (arith, ap (λ w. length w.clusters) c.self.view_is) in
      let listed : c.args.number < length c.args.self.now.posts = omega (arith, ap (λ w. length w.posts) c.self.view_is) in
      let posted : slice_get c.args.self.now.posts c.args.number ≡ Some (post_at c.args.self.now c.args.number) = slice_get-get_or c.args.self.now.posts c.args.number (record { net = 0; from = 0; to = 0; changes = [] }) listed in
      rw c.play_fault.ensures (deliver_refuses design clustering c.args.self.now of c.args.cluster there c.args.number (post_at c.args.self.now c.args.number) posted
      c.deliver_in.new.self c.in-Err.fault c.in-Err.ensures.fault c.in-Err.ensures.unchanged);
  kept = search rules;
  unchanged = search rules;
  size = search rules;
}
