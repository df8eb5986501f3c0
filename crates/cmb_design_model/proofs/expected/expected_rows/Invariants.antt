use Rattle.std.proofs.Common.{◌≡◌, None, map, take}
use Rattle.std.specs.Prelude.{All}
use Rattle.cmb_design_model.specs.Checks.{first_fault, rows_checks}
use Rattle.cmb_design_model.specs.Expected.{IsWithin, expected_of}
use Rattle.cmb_design_model.specs.Rows.{expected_row_checks}
use Rattle.cmb_design_model.specs.Inner.Stimuli.{AreStimuli}
use Rattle.cmb_design_model.proofs.expected.expected_rows.Given as goal

abbrev pub invariant-loop-i : goal.invariant-loop-i
invariant-loop-i l = record {
  told : AreStimuli l.design.netlist (take l.i l.rows) l.table.items;
  passed : first_fault (rows_checks (expected_row_checks l.design.netlist l.design.horizon) (take l.i l.rows)) ≡ None;
  rows : l.all.items ≡ map (expected_of l.design.netlist) (take l.i l.rows);
  within : All (IsWithin l.design) l.all.items;
}
