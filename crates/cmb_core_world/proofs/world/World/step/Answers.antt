use Rattle.std.proofs.Common.{rules, sym, ◌∙◌, ap}
use Rattle.cmb_core_cluster.specs.Clustering.{cluster_of}
use Rattle.cmb_core_world.specs.Play.{shown}
use Rattle.cmb_core_world.proofs.Plays.{home_here, step_plays, step_wants}
use Rattle.cmb_core_world.proofs.world.World.step.Goals as goal

pub returns-in-Ok : goal.returns-in-Ok
returns-in-Ok c = record {
  played = λ design clustering of.
      let home = home_here design clustering c.args.self.now of c.args.net c.in-Some.cluster (sym c.home.ensures.place ∙ c.in-Some.is) in
      step_plays design clustering c.args.self.now c.step_in.new.self c.args.net c.in-Some.cluster c.in-Ok.part home.inside c.in-Some.ensures.there home.is c.in-Ok.ensures.same
      (c.in-Ok.ensures.part design clustering (cluster_of clustering c.args.net) home.of home.own) (c.in-Ok.ensures.waves design clustering (cluster_of clustering c.args.net) home.of home.own);
  kept = search rules;
  unchanged = search rules;
  size = search rules;
}

pub returns-in-Err : goal.returns-in-Err
returns-in-Err c = record {
  played = λ design clustering of.
      let home = home_here design clustering c.args.self.now of c.args.net c.in-Some.cluster (sym c.home.ensures.place ∙ c.in-Some.is) in (
        ap shown c.in-Err.ensures.unchanged,
        step_wants design clustering c.args.self.now c.args.net c.in-Some.cluster home.inside c.in-Some.ensures.there home.is
            (λ none. let idle = c.in-Err.ensures.still design clustering (cluster_of clustering c.args.net) home.of home.own none in cc),
      );
  kept = search rules;
  unchanged = search rules;
  size = search rules;
}
