use Rattle.std.proofs.Common.{[], ◌∷◌, ◌++◌, List, get_or, map, sym, ap, ◌∙◌}
use Rattle.std.proofs.lemmas.List.{map_more, take_all}
use Rattle.cmb_wave.specs.Wave.{Wave, new_wave}
use Rattle.cmb_core_cluster.proofs.open.waves_of.Goals as goal

pub loop-net-preserved : goal.loop-net-preserved
loop-net-preserved c =
    c.in_ok-push.ensures.items ∙ ap (λ (wave : Wave). c.loop-net.waves.items ++ wave ∷ []) c.new.ensures
    ∙ ap (λ (waves : List Wave). waves ++ new_wave (get_or c.args.nets.now c.loop-net.net-index 0) ∷ []) c.loop-net.invariant
    ∙ sym (map_more new_wave c.args.nets.now c.loop-net.net-index 0 c.loop-net-test.true)

pub returns : goal.returns
returns c = c.loop-net.invariant ∙ ap (map new_wave) (take_all c.loop-net.net-index c.args.nets.now c.loop-net-test.false)
