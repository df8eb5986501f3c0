-- What a table expects of a design's run, or why it can't.
use Rattle.std.specs.Prelude.{◌≡◌, ℕ, List, ◌++◌, map, None, Some, ⊤}
use Rattle.cmb_design_model.specs.Checks.{Check, first_fault, rows_checks}
use Rattle.cmb_design_model.specs.Design.{Design}
use Rattle.cmb_design_model.specs.Expected.{expected_of}
use Rattle.cmb_design_model.specs.Rows.{expected_row_checks}
use Rattle.cmb_design_model.specs.declared.expected.Expected.{Expected}
use Rattle.cmb_design_model.specs.declared.rows.StimulusRow.{StimulusRow}
use Rattle.cmb_faults.specs.declared.fault.Fault.{Fault}
use Rattle.cmb_faults.specs.declared.fault.Fault.TheVariants as fault
use Rattle.cmb_design_tables.specs.Readers.{table_checks, table_rows, stimulus_header, stimulus_record_checks, stimulus_row_of}
use Rattle.cmb_design_tables.specs.Records.{table_records}

-- its rows, which have the form of stimuli
abbrev pub rows_in : List ℕ → List StimulusRow
rows_in text = table_rows stimulus_row_of (table_records text)

-- all checks of the table with a design, in their order: of its records, then of its rows
abbrev pub expected_checks : Design → List ℕ → List Check
expected_checks design text =
    table_checks stimulus_header stimulus_record_checks (table_records text) ++ rows_checks (expected_row_checks design.netlist design.horizon) (rows_in text)

-- the table expects these rows
pub record AreExpected (design : Design) (text : List ℕ) (rows : List Expected) : Type 0 where
  pub checked : first_fault (expected_checks design text) ≡ None
  pub is : rows ≡ map (expected_of design.netlist) (rows_in text)

-- why it can't expect anything: memory aside, the first of its checks that stands
abbrev pub AreUnexpected : Design → List ℕ → Fault → Type 0
AreUnexpected design text (fault.Design f) = first_fault (expected_checks design text) ≡ Some f
AreUnexpected design text fault.Memory = ⊤
AreUnexpected design text _ = ⊥
