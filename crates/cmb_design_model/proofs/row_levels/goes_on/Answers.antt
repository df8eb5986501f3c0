use Rattle.std.proofs.Common.{◌≢◌, ◌∙◌, subst, sym, arith}
use Rattle.cmb_wave.specs.declared.level.Level.{Level}
use Rattle.cmb_wave.proofs.Lists.{differs_of_test}
use Rattle.cmb_design_model.specs.Inner.RowLevels.{rows_of}
use Rattle.cmb_design_model.proofs.ToldFacts.{changes-push}
use Rattle.cmb_design_model.proofs.row_levels.goes_on.Goals as goal

pub returns-clause-behind : goal.returns-clause-behind
returns-clause-behind c = λ _. c.is_behind.ensures c.if-not-is_behind.false

pub returns-clause-changes : goal.returns-clause-changes
returns-clause-changes c = λ _.
    let P : Level → Type 0 = λ l. c.args.level ≢ l in
    let other = subst P c.last_level.ensures (differs_of_test c.args.level c.last_level.result (sym c.is_same.ensures ∙ c.if-is_same.false)) in
    changes-push (rows_of c.args.changes.now) c.args.tick c.args.level c.requires (c.is_behind.ensures c.if-not-is_behind.false) (omega arith) other
