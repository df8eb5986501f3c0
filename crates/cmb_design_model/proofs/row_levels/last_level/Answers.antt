use Rattle.std.proofs.Common.{◌≡◌, ◌-◌, ◌∙◌, ap, get_or, length, sym, arith}
use Rattle.std.proofs.lemmas.Option.{get_or_from_slice_get, slice_get_within}
use Rattle.cmb_wave.specs.declared.level.Change.{Change}
use Rattle.cmb_wave.specs.declared.level.Level.TheVariants.{X}
use Rattle.cmb_design_model.proofs.ToldFacts.{level_last}
use Rattle.cmb_design_model.proofs.row_levels.last_level.Goals as goal

pub returns-in-Some : goal.returns-in-Some
returns-in-Some c =
    let changes = c.args.changes.now in
    let last : Change = c.in-Some.last.now in
    let found = sym c.in-Some.ensures.value in
    let within = slice_get_within changes (length changes - 1) last found in
    let is : get_or changes (length changes - 1) last ≡ last = get_or_from_slice_get changes (length changes - 1) last last found in
    sym (ap (λ (r : Change). r.level) is) ∙ level_last X changes (length changes - 1) last (omega (arith, within))
