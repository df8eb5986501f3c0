use Rattle.std.proofs.Common.{◌∙◌, ap, refl}
use Rattle.cmb_run_text.specs.Inner.ValueChanges.{within}
use Rattle.cmb_run_text.proofs.TraceFacts.{between}
use Rattle.cmb_run_text.proofs.value_changes.changes_within.Goals as goal

pub returns-clause-changes : goal.returns-clause-changes
returns-clause-changes c =
    c.rest_from.ensures
    ∙ between c.args.from c.args.to c.changes-changes.result.now c.rest_from-later.result.now _ c.changes-changes.ensures.rises c.rest_from-later.ensures refl
    ∙ ap (within c.args.from c.args.to) c.changes-changes.ensures.changes
