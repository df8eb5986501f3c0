use Rattle.std.proofs.Common.{subst}
use Rattle.cmb_design_model.specs.Checks.{FollowsChecks}
use Rattle.cmb_design_model.specs.Design.{Design}
use Rattle.cmb_design_model.specs.Settings.{design_checks}
use Rattle.cmb_design_model.proofs.PartFacts.{design_on-is}
use Rattle.cmb_design_model.proofs.design.Design.on.Goals as goal

pub returns-in-Ok : goal.returns-in-Ok
returns-in-Ok c =
    let rows = c.in-Ok.ensures in
    let Follows : Design → Type 0 = λ d. FollowsChecks (design_checks d) d c.new.result in
    subst Follows (design_on-is c.args.self.now c.args.netlist c.settings.result _ _ _ _ c.settings.ensures.0 c.settings.ensures.1 c.settings.ensures.2 rows.0 rows.1 rows.2 rows.3) c.new.ensures.checks
