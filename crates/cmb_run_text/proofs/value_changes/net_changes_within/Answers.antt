use Rattle.std.proofs.Common.{◌≡◌, ◌<◌, ◌∙◌, ◌++◌, ◌+◌, sym, ap, arith, refl, drop, below_more, length}
use Rattle.cmb_wave.specs.Wave.{Wave}
use Rattle.cmb_wave.specs.Waveform.{IsTrace}
use Rattle.cmb_run_text.specs.Collector.{wave_of}
use Rattle.cmb_run_text.specs.Inner.ValueChanges.{all_value_changes, value_changes_of, value_changes_in, within}
use Rattle.cmb_run_text.proofs.ValueChangeFacts.{all_value_changes-next, wave_here}
use Rattle.cmb_design_model.proofs.LevelFacts.{push-rest}
use Rattle.cmb_run_text.proofs.LineFacts.{rest_none}
use Rattle.cmb_run_text.proofs.TraceFacts.{trace_start}
use Rattle.cmb_run_text.proofs.value_changes.net_changes_within.Goals as goal

pub loop-net-init : goal.loop-net-init
unfolding value_changes_in
loop-net-init c = record { events = rw c.new-parts.ensures.items refl; traces = λ net h. absurd (omega arith) }

pub loop-net-preserved : goal.loop-net-preserved
loop-net-preserved c =
    let waves = c.args.waves.now in
    let from = c.args.from in
    let to = c.args.to in
    let n = c.loop-net.net in
    let old = value_changes_in c.loop-net.parts.items in
    let within_list : n < length waves = omega arith in
    let here : c.index-waves-net.result ≡ wave_of waves n = wave_here waves n c.index-waves-net.result within_list c.index-waves-net.is in
    let trace : IsTrace (wave_of waves n).kept 0 (wave_of waves n).changes (wave_of waves n).clock = rw (← here) (trace_start _ _ _ _ c.changes_within.ensures.trace) in
    record {
      events = push-rest old (value_changes_in c.add_net_changes.new.parts.items) (value_changes_of n (within from to (wave_of waves n).changes)) (all_value_changes from to (n + 1) (drop (n + 1) waves)) _
          (c.in_ok-add_net_changes.ensures ∙ ap (λ cs. old ++ value_changes_of n cs) (c.changes_within.ensures.changes ∙ ap (λ (w : Wave). within from to w.changes) here))
          (ap (λ t. old ++ t) (sym (all_value_changes-next from to waves n within_list)) ∙ c.loop-net.invariant.events);
      traces = below_more _ _ c.loop-net.invariant.traces trace;
    }

pub returns-clause-events : goal.returns-clause-events
unfolding all_value_changes
returns-clause-events c = rest_none (all_value_changes c.args.from c.args.to c.loop-net.net) c.args.waves.now c.loop-net.net _ _ (omega arith) refl c.loop-net.invariant.events
