use Rattle.std.proofs.Common.{◌<◌, ◌∙◌, get_or, length, arith}
use Rattle.cmb_run_text.proofs.TakenFacts.{AreTaken-more}
use Rattle.cmb_run_text.proofs.ValueChangeFacts.{wave_here}
use Rattle.cmb_run_text.proofs.chosen.taken_out.Goals as goal

pub loop-net-preserved : goal.loop-net-preserved
loop-net-preserved c =
    let left = c.loop-net.waves.items in
    let net = get_or c.args.nets.now c.loop-net.net-index 0 in
    let all : net < length c.args.waves.items = c.requires.within c.loop-net.net-index 0 c.loop-net-test.true in
    let there : net < length left = omega (arith, all, c.loop-net.invariant.count) in
    rw c.in_ok-push.ensures.items
    (AreTaken-more c.args.waves.items c.args.nets.now c.loop-net.net-index left c.loop-net.chosen.items c.replace.result c.replace.new.dest c.requires.rising c.loop-net-test.true
    (c.replace.ensures.value ∙ wave_here left net c.index_mut.result.now there c.index_mut.ensures.value) c.loop-net.invariant)
