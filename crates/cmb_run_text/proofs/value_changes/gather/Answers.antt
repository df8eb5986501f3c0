use Rattle.std.proofs.Common.{◌∙◌, ◌++◌, ◌+◌, sym, ap, arith, refl, drop}
use Rattle.cmb_run_text.specs.Inner.ValueChanges.{value_changes_of, value_changes_in}
use Rattle.cmb_run_text.proofs.ValueChangeFacts.{part_at, value_changes_in-next}
use Rattle.cmb_design_model.proofs.LevelFacts.{push-rest}
use Rattle.cmb_run_text.proofs.LineFacts.{rest_none}
use Rattle.cmb_run_text.proofs.value_changes.gather.Goals as goal

pub loop-part-preserved : goal.loop-part-preserved
loop-part-preserved c =
    let parts = c.args.parts.now in
    let i = c.loop-part.part-index in
    let old = c.loop-part.events.items in
    push-rest old c.add_value_changes.new.events.items (value_changes_of (part_at parts i).net (part_at parts i).changes.now) (value_changes_in (drop (i + 1) parts)) _
    c.in_ok-add_value_changes.ensures
    (ap (λ t. old ++ t) (sym (value_changes_in-next parts i (omega arith))) ∙ c.loop-part.invariant)

pub returns : goal.returns
unfolding value_changes_in
returns c = record { events = rest_none value_changes_in c.args.parts.now c.loop-part.part-index _ _ (omega arith) refl c.loop-part.invariant }
