use Rattle.std.proofs.Common.{◌∙◌, ap, sym, subst, arith, cond, Some, take, []}
use Rattle.std.specs.Prelude.{◌==◌}
use Rattle.std.specs.Map.{lookup}
use Rattle.std.specs.Ordering.{nat_cmp}
use Rattle.std.specs.BTreeMap.{is_at}
use Rattle.cmb_wave.specs.declared.level.Change.{Change}
use Rattle.cmb_design_model.specs.Inner.RowLevels.{Below, row_in, rows_of}
use Rattle.cmb_design_model.proofs.LevelFacts.{lookup_is}
use Rattle.cmb_design_model.proofs.ToldFacts.{below-take, row_in-push, rows-take}
use Rattle.cmb_design_model.proofs.row_levels.map_of.Goals as goal

pub loop-i-init : goal.loop-i-init
loop-i-init c = λ t. ap (lookup (is_at (nat_cmp t))) c.new-map.ensures.empty ∙ lookup_is [] t

pub loop-i-preserved : goal.loop-i-preserved
loop-i-preserved c = λ t.
    let changes = c.args.changes.now in
    let i = c.loop-i.i in
    let change : Change = c.change_at-change.result in
    let P : Change → Type 0 = λ r. Below r.tick (rows_of (take i changes)) in
    let below : Below change.tick (rows_of (take i changes)) = subst P (sym c.change_at-change.ensures) (below-take 0 changes i change c.requires.rises (omega (arith, c.loop-i-test.true))) in
    let inserted = rw c.from.ensures at (c.in_ok-insert_level.ensures.new t) in
    inserted ∙ ap (λ o. cond (t == change.tick) (Some change.level) o) (c.loop-i.invariant t)
    ∙ sym (ap (λ rs. row_in rs t) (rows-take changes i change (omega (arith, c.loop-i-test.true)) c.change_at-change.ensures) ∙ row_in-push (rows_of (take i changes)) change.tick change.level t below)
