use Rattle.std.proofs.Common.{◌≡◌, ◌<◌, ◌∙◌, ◌++◌, ◌+◌, ◌-◌, sym, ap, arith, length}
use Rattle.std.proofs.lemmas.List.{append-nil}
use Rattle.cmb_wave.specs.Wave.{Wave}
use Rattle.cmb_wave.specs.Waveform.{level_at}
use Rattle.cmb_run_text.specs.Collector.{collected_level, wave_of}
use Rattle.cmb_run_text.specs.Vcd.{level_line, level_lines}
use Rattle.cmb_run_text.proofs.ValueChangeFacts.{wave_here}
use Rattle.cmb_design_model.proofs.LevelFacts.{push-rest}
use Rattle.cmb_run_text.proofs.LineFacts.{level_lines-next, level_lines-none}
use Rattle.cmb_run_text.proofs.text.push_levels.Goals as goal

pub loop-net-preserved : goal.loop-net-preserved
loop-net-preserved c =
    let waves = c.args.waves.now in
    let level = collected_level waves in
    let n = c.loop-net.net in
    let old = c.loop-net.out.items in
    let within_list : n < length waves = omega arith in
    let here : c.index-waves-net.result ≡ wave_of waves n = wave_here waves n c.index-waves-net.result within_list c.index-waves-net.is in
    push-rest old c.push.new.out.items (level_line (level n 0) n) (level_lines level 0 (n + 1) (length waves - (n + 1))) _
    (c.in_ok-push.ensures ∙ ap (λ l. old ++ level_line l n) (c.first_level.ensures ∙ ap (λ (w : Wave). level_at w.kept w.changes 0) here))
    (ap (λ t. old ++ t) (sym (level_lines-next level 0 n (length waves) within_list)) ∙ c.loop-net.invariant)

pub returns : goal.returns
returns c =
    let waves = c.args.waves.now in
    let n = c.loop-net.net in
    sym (append-nil c.loop-net.out.items) ∙ ap (λ t. c.loop-net.out.items ++ t) (sym (level_lines-none (collected_level waves) 0 n (length waves) (omega arith))) ∙ c.loop-net.invariant
