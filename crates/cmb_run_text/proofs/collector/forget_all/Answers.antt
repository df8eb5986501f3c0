use Rattle.std.proofs.Common.{◌<◌, ◌∙◌, ap, arith, length}
use Rattle.cmb_wave.specs.Wave.{Wave, wave_from}
use Rattle.cmb_run_text.proofs.ForgetFacts.{at_rest, done_more, rest_more}
use Rattle.cmb_run_text.proofs.collector.forget_all.Goals as goal

pub forget-requires-clause-known : goal.forget-requires-clause-known
forget-requires-clause-known c =
    let i = c.loop-wave.wave-index in
    let there : i < length c.args.waves.now = omega arith in
    let here : i < length c.loop-wave.waves = omega arith in
    omega (arith, ap (λ (w : Wave). w.clock) (at_rest c.loop-wave.waves c.args.waves.now i here there c.loop-wave.invariant.rest c.wave-item.result), c.requires.known i there)

pub forget-requires-clause-kept : goal.forget-requires-clause-kept
forget-requires-clause-kept c =
    let i = c.loop-wave.wave-index in
    let there : i < length c.args.waves.now = omega arith in
    let here : i < length c.loop-wave.waves = omega arith in
    omega (arith, ap (λ (w : Wave). w.base) (at_rest c.loop-wave.waves c.args.waves.now i here there c.loop-wave.invariant.rest c.wave-item.result), c.requires.kept i there)

pub loop-wave-preserved : goal.loop-wave-preserved
loop-wave-preserved c =
    let i = c.loop-wave.wave-index in
    let there : i < length c.args.waves.now = omega arith in
    let here : i < length c.loop-wave.waves = omega arith in
    let forgets = λ (wave : Wave). wave_from wave c.args.upto in
    let was = at_rest c.loop-wave.waves c.args.waves.now i here there c.loop-wave.invariant.rest c.wave-item.result in
    record {
      done = done_more c.loop-wave.waves c.args.waves.now i here there c.loop-wave.invariant.rest forgets c.forget.new.self c.loop-wave.invariant.done (c.forget.ensures ∙ ap forgets was);
      rest = rest_more c.loop-wave.waves c.args.waves.now i here there c.loop-wave.invariant.rest c.forget.new.self;
    }
