use Rattle.std.proofs.Common.{◌∙◌, ap, sym, subst}
use Rattle.cmb_design_model.specs.Inner.RowLevels.{AreChanges, Below, row_in, rows_of}
use Rattle.cmb_design_model.proofs.ToldFacts.{row_in-beyond, row_in-push}
use Rattle.cmb_design_model.proofs.row_levels.add_level.Goals as goal

pub returns-then-goes_on-clause-old : goal.returns-then-goes_on-clause-old
returns-then-goes_on-clause-old c =
    let below = subst (λ list. Below c.args.tick (rows_of list)) c.deref.ensures.value (c.goes_on.ensures.behind c.if-goes_on.true) in
    rw c.in-Changes.is (sym (row_in-beyond c.args.tick (rows_of c.in-Changes.list.items) below))

pub returns-then-goes_on-clause-new : goal.returns-then-goes_on-clause-new
returns-then-goes_on-clause-new c =
    let below = subst (λ list. Below c.args.tick (rows_of list)) c.deref.ensures.value (c.goes_on.ensures.behind c.if-goes_on.true) in
    rw c.in-Changes.is (λ t. ap (λ rows. row_in rows t) c.in_ok-push_row-in-Changes.ensures.rows ∙ row_in-push (rows_of c.in-Changes.list.items) c.args.tick c.args.level t below)

pub returns-then-goes_on-clause-told : goal.returns-then-goes_on-clause-told
returns-then-goes_on-clause-told c =
    let changes = rw c.deref.ensures.value at (c.goes_on.ensures.changes c.if-goes_on.true) in
    subst AreChanges (sym c.in_ok-push_row-in-Changes.ensures.rows) changes
