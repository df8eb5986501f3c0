use Rattle.std.proofs.Common.{◌≡◌, None, take, true}
use Rattle.cmb_design_model.specs.Checks.{first_fault, rows_checks}
use Rattle.cmb_design_model.specs.Rows.{delay_row_checks}
use Rattle.cmb_design_model.specs.Inner.Tables.{all_placed, delay_places}
use Rattle.cmb_design_model.proofs.delays.take_delays.Given as goal

abbrev pub invariant-loop-i : goal.invariant-loop-i
invariant-loop-i l =
    (l.table.items ≡ delay_places l.netlist (take l.i l.rows)) × (first_fault (rows_checks (delay_row_checks l.netlist) (take l.i l.rows)) ≡ None) × (all_placed l.netlist (take l.i l.rows) ≡ true)
