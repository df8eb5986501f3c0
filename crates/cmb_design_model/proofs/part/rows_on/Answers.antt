use Rattle.std.proofs.Common.{sym, subst}
use Rattle.cmb_design_model.specs.Ranges.{AreRows}
use Rattle.cmb_design_model.proofs.PartFacts.{rows_kept}
use Rattle.cmb_design_model.proofs.part.rows_on.Goals as goal

pub new-requires : goal.new-requires
new-requires g c = rows_kept _ _ c.as_slice-all.result.now c.loop-row.kept.items c.loop-row.row-index (subst (AreRows g.R.Row.IsLawful) (sym c.as_slice-all.ensures.value) c.as_slice-all.ensures.lawful) c.loop-row.invariant
