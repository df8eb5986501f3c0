use Rattle.std.proofs.Common.{◌≡◌, ◌<◌, ◌∙◌, ℕ, List, get_or, length, subst, sym}
use Rattle.std.specs.Prelude.{All}
use Rattle.cmb_design_model.specs.Exact.{nets_of}
use Rattle.cmb_design_model.specs.Value.{value}
use Rattle.cmb_chosen.specs.Inner.Levels.{AreLevelsAt}
use Rattle.cmb_chosen.specs.Parts.{Part}
use Rattle.cmb_chosen.proofs.LevelFacts.{levels-back, named-within}
use Rattle.cmb_chosen.proofs.expectations.expected_differences.Goals as goal

pub part_of-requires : goal.part_of-requires
part_of-requires c =
    let named = c.in_ok-nets.ensures in
    subst (λ (nets : List ℕ). All (λ net. net < nets_of c.args.design.now) nets) (sym c.deref.ensures.value)
    (named-within c.args.design.now c.args.rows.now c.in_ok-nets.nets.items named c.requires.rows)

pub differing_rows-requires-clause-found : goal.differing_rows-requires-clause-found
differing_rows-requires-clause-found c =
    let part = c.part.inside in
    let Agree : Part → List ℕ → Type 0 = λ p nets. (i tick : ℕ) → i < length nets → value p.design (get_or p.nets i 0) tick ≡ value c.args.design.now (get_or nets i 0) tick in
    let at : AreLevelsAt part.design part.nets.items c.args.rows.now c.in_ok-found.field-0.items =
    subst (λ (nets : List ℕ). AreLevelsAt part.design nets c.args.rows.now c.in_ok-found.field-0.items) c.deref-2.ensures.value c.in_ok-found.ensures in
    let levels : Agree (record { design = part.design; nets = part.nets.items }) c.in_ok-nets.nets.items =
    subst (λ (p : Part). Agree p c.in_ok-nets.nets.items) (sym c.part.view_is) (subst (Agree c.in_ok-part.part) c.deref.ensures.value c.in_ok-part.ensures.levels) in
    c.deref-3.ensures.value ∙ levels-back c.args.design.now part.design c.args.rows.now c.in_ok-nets.nets.items part.nets.items c.in_ok-found.field-0.items at c.in_ok-nets.ensures levels
