use Rattle.std.proofs.Common.{◌∙◌, ◌++◌, ◌+◌, List, [], ◌∷◌, sym, ap, arith, refl, drop, get_or}
use Rattle.cmb_wave.specs.declared.level.Change.{Change}
use Rattle.cmb_wave.specs.declared.level.Level.TheVariants as level
use Rattle.cmb_run_text.specs.declared.value_changes.ValueChange.{ValueChange}
use Rattle.cmb_run_text.specs.Inner.ValueChanges.{value_changes_of}
use Rattle.cmb_run_text.proofs.ValueChangeFacts.{value_changes_of-next}
use Rattle.cmb_design_model.proofs.LevelFacts.{push-rest}
use Rattle.cmb_run_text.proofs.LineFacts.{rest_none}
use Rattle.cmb_run_text.proofs.value_changes.add_value_changes.Goals as goal

pub loop-change-preserved : goal.loop-change-preserved
loop-change-preserved c =
    let cs = c.args.part.changes.now in
    let net = c.args.part.net in
    let i = c.loop-change.change-index in
    let old = c.loop-change.events.items in
    let d : Change = record { tick = 0; level = level.Zero } in
    let event : List ValueChange = record { tick = (get_or cs i d).tick; net = net; level = (get_or cs i d).level } ∷ [] in
    push-rest old c.push.new.self.items event (value_changes_of net (drop (i + 1) cs)) _ c.in_ok-push.ensures.items
    (ap (λ t. old ++ t) (sym (value_changes_of-next net cs i d (omega arith))) ∙ c.loop-change.invariant)

pub returns : goal.returns
unfolding value_changes_of
returns c = rest_none (value_changes_of c.args.part.net) c.args.part.changes.now c.loop-change.change-index _ _ (omega arith) refl c.loop-change.invariant
