use Rattle.std.proofs.Common.{◌≡◌, None, take}
use Rattle.cmb_design_model.specs.Checks.{first_fault, rows_checks}
use Rattle.cmb_design_model.specs.Rows.{stimulus_row_checks}
use Rattle.cmb_design_model.specs.Inner.Stimuli.{AreStimuli}
use Rattle.cmb_design_model.proofs.stimuli.stimuli_changes.Given as goal

abbrev pub invariant-loop-i : goal.invariant-loop-i
invariant-loop-i l = AreStimuli l.netlist (take l.i l.rows) l.table.items × (first_fault (rows_checks (stimulus_row_checks l.netlist) (take l.i l.rows)) ≡ None)
