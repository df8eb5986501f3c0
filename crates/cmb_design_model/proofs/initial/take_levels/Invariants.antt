use Rattle.std.proofs.Common.{◌≡◌, None, take}
use Rattle.cmb_design_model.specs.Checks.{first_fault, rows_checks}
use Rattle.cmb_design_model.specs.Rows.{initial_row_checks}
use Rattle.cmb_design_model.specs.Inner.Tables.{initial_places}
use Rattle.cmb_design_model.proofs.initial.take_levels.Given as goal

abbrev pub invariant-loop-i : goal.invariant-loop-i
invariant-loop-i l = (l.table.items ≡ initial_places l.netlist (take l.i l.rows)) × (first_fault (rows_checks (initial_row_checks l.netlist) (take l.i l.rows)) ≡ None)
