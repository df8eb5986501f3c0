use Rattle.std.proofs.Common.{◌≡◌, ◌<◌, ◌≤◌, ◌+◌, ◌-◌, ◌&&◌, cond, not, nat_lt, sym, ◌∙◌, ap, arith, append_assoc, refl}
use Rattle.cmb_wave.specs.Waveform.{same_level}
use Rattle.cmb_core_cluster.specs.Inner.Spans.{changes_from}
use Rattle.cmb_core_cluster.specs.Inner.Processes.{sampled_wave}
use Rattle.cmb_core_cluster.specs.Step.{wave_at}
use Rattle.cmb_core_cluster.proofs.AdvanceLemmas.{flop_halves}
use Rattle.cmb_core_cluster.proofs.advance.flop_changes.Goals as goal
use Rattle.cmb_core_cluster.proofs.advance.flop_changes.Goals.{then-begins_anew, else-begins_anew}

pub returns : goal.returns
returns c =
    let span = c.args.span in
    let middle = c.min-middle.result in
    let a : span.from ≤ middle = omega (arith, c.if-begun-span.false) in
    let b : middle ≤ span.until = omega arith in
    let early : middle ≤ c.args.first + c.args.operand.delay = omega arith in
    let begun : middle < span.until → c.args.first + c.args.operand.delay ≤ middle = λ h. omega (arith, h) in
    let ends : c.if-begins_anew.before ≡ cond (nat_lt span.from middle && not (same_level c.args.init span.before)) c.args.init span.before =
    elim c.if-begins_anew.branch [
      | then-begins_anew w ↦ w.before-is ∙ sym (ap (λ t. cond t c.args.init span.before) (sym c.begins_anew.ensures ∙ w.if-begins_anew.true))
      | else-begins_anew w ↦ w.before-is ∙ sym (ap (λ t. cond t c.args.init span.before) (sym c.begins_anew.ensures ∙ w.if-begins_anew.false))
    ]
    in
    let held = c.in_ok-held_changes.ensures (λ t. c.args.init) (λ t h. refl) in
    let tail = c.sampled_changes-2.ensures c.args.init begun in
    let whole = flop_halves (wave_at c.args.waves.now c.args.operand.net) c.args.first c.args.period c.args.operand.delay c.args.init span.before c.if-begins_anew.before span.from middle span.until a b early ends in
    let joined = append_assoc c.args.room.now.items (changes_from (λ t. c.args.init) span.before span.from (middle - span.from)) (changes_from (sampled_wave (wave_at c.args.waves.now c.args.operand.net) c.args.first c.args.period c.args.init c.args.operand.delay) c.if-begins_anew.before middle (span.until - middle)) in
    rw (held, joined, whole) at tail
