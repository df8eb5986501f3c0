use Rattle.std.proofs.Common.{◌≡◌, take}
use Rattle.std.specs.List.{filter}
use Rattle.cmb_design_model.proofs.part.rows_on.Given as goal

abbrev pub invariant-loop-row : goal.invariant-loop-row
invariant-loop-row g l = l.kept.items ≡ filter (g.R.PartRow.is_of l.netlist) (take l.row-index l.all)
