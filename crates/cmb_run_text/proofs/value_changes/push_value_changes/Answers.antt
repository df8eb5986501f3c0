use Rattle.std.proofs.Common.{◌∙◌, ◌++◌, ◌+◌, sym, ap, arith, refl, drop, get_or}
use Rattle.cmb_run_text.specs.declared.value_changes.ValueChange.{ValueChange}
use Rattle.cmb_wave.specs.declared.level.Level.TheVariants as level
use Rattle.cmb_run_text.specs.Inner.ValueChanges.{value_change_text, value_changes_text}
use Rattle.cmb_run_text.proofs.ValueChangeFacts.{value_changes_text-next}
use Rattle.cmb_design_model.proofs.LevelFacts.{push-rest}
use Rattle.cmb_run_text.proofs.LineFacts.{rest_none}
use Rattle.cmb_run_text.proofs.value_changes.push_value_changes.Goals as goal

pub loop-event-preserved : goal.loop-event-preserved
loop-event-preserved c =
    let es = c.args.events.now in
    let i = c.loop-event.event-index in
    let old = c.loop-event.out.items in
    let d : ValueChange = record { tick = 0; net = 0; level = level.Zero } in
    push-rest old c.push_value_change.new.out.items (value_change_text c.loop-event.last (get_or es i d)) (value_changes_text (get_or es i d).tick (drop (i + 1) es)) _
    c.in_ok-push_value_change.ensures
    (ap (λ t. old ++ t) (sym (value_changes_text-next c.loop-event.last es i d (omega arith))) ∙ c.loop-event.invariant)

pub returns : goal.returns
unfolding value_changes_text
returns c = rest_none (value_changes_text c.loop-event.last) c.args.events.now c.loop-event.event-index _ _ (omega arith) refl c.loop-event.invariant
