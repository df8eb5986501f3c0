use Rattle.std.proofs.Common.{◌≡◌, ◌∙◌, ◌++◌, ◌∷◌, [], List, ap, arith, sym}
use Rattle.cmb_wave.specs.Wave.{Wave, new_wave}
use Rattle.cmb_run_text.specs.Collector.{new_waves}
use Rattle.cmb_run_text.proofs.CollectorFacts.{new_waves_more}
use Rattle.cmb_run_text.proofs.collector.make_waves.Goals as goal

pub loop-net-preserved : goal.loop-net-preserved
loop-net-preserved c =
    c.in_ok-push.ensures.items
    ∙ ap (λ (wave : Wave). c.loop-net.waves.items ++ wave ∷ []) c.new.ensures
    ∙ ap (λ (waves : List Wave). waves ++ new_wave c.loop-net.net ∷ []) c.loop-net.invariant
    ∙ sym (new_waves_more c.loop-net.net)

pub returns : goal.returns
returns c =
    let all : c.loop-net.net ≡ c.args.nets = omega arith in
    c.loop-net.invariant ∙ ap new_waves all
