use Rattle.std.proofs.Common.{subst}
use Rattle.cmb_design_model.specs.Inner.RowLevels.{IsTold}
use Rattle.cmb_design_model.proofs.ToldFacts.{settled}
use Rattle.cmb_design_model.proofs.row_levels.settle.Goals as goal

pub returns-in-Changes : goal.returns-in-Changes
returns-in-Changes c = rw c.in-Changes.is (settled c.in-Changes.field-0.items (subst IsTold c.in-Changes.is c.requires))
