use Rattle.std.proofs.Common.{◌≡◌, None, take}
use Rattle.cmb_design_model.specs.Checks.{first_fault, rows_checks}
use Rattle.cmb_design_model.specs.Rows.{clock_row_checks}
use Rattle.cmb_design_model.specs.Inner.Tables.{clock_places}
use Rattle.cmb_design_model.proofs.clocks.take_clocks.Given as goal

abbrev pub invariant-loop-i : goal.invariant-loop-i
invariant-loop-i l = (l.table.items ≡ clock_places l.netlist (take l.i l.rows)) × (first_fault (rows_checks (clock_row_checks l.netlist) (take l.i l.rows)) ≡ None)
