use Rattle.std.proofs.Common.{◌+◌, ap, ◌∙◌}
use Rattle.std.proofs.lemmas.List.{length_push}
use Rattle.cmb_core_world.proofs.NewWorlds.{new_clusters_more, each_more}
use Rattle.cmb_core_world.proofs.world.opened_clusters.Goals as goal

pub loop-number-preserved : goal.loop-number-preserved
loop-number-preserved c =
    rw c.in_ok-push.ensures.items (record {
      count = length_push c.loop-number.clusters.items c.in_ok-open.field-0 ∙ ap (λ n. n + 1) c.loop-number.invariant.count;
      each = each_more c.args.design.now c.args.clustering.now c.loop-number.clusters.items c.in_ok-open.field-0 c.loop-number.number c.loop-number.invariant.count c.loop-number.invariant.each c.in_ok-open.ensures.of;
      waves = new_clusters_more c.args.design.now c.args.clustering.now c.loop-number.clusters.items c.in_ok-open.field-0 c.loop-number.number c.loop-number.invariant.waves c.in_ok-open.ensures.new;
    })
