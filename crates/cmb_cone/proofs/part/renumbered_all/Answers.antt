use Rattle.std.proofs.Common.{map, get_or, refl, ap, ◌∙◌}
use Rattle.std.proofs.lemmas.List.{take_all}
use Rattle.cmb_cone.proofs.PartFacts.{map_step}
use Rattle.cmb_cone.proofs.part.renumbered_all.Goals as goal

pub loop-net-preserved : goal.loop-net-preserved
loop-net-preserved c =
    map_step (λ net. get_or c.args.places.now net 0) c.args.nets.now c.loop-net.net-index c.loop-net.numbers.items _ _ c.loop-net-test.true c.loop-net.invariant refl c.in_ok-push.ensures.items

pub returns : goal.returns
returns c = c.loop-net.invariant ∙ ap (map (λ net. get_or c.args.places.now net 0)) (take_all c.loop-net.net-index c.args.nets.now c.loop-net-test.false)
