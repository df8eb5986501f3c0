use Rattle.std.proofs.Common.{◌≡◌, ◌++◌, List, ℕ, length, ◌+◌, None, map}
use Rattle.cmb_design_model.specs.Checks.{first_fault}
use Rattle.cmb_design_tables.specs.Fields.{fields_in}
use Rattle.cmb_design_tables.specs.Readers.{table_checks, table_rows}
use Rattle.cmb_design_tables.specs.Records.{IsReading, records_left}
use Rattle.cmb_design_tables.proofs.table.take_records.Given as goal

abbrev pub invariant-loop-number : goal.invariant-loop-number
invariant-loop-number g l =
    IsReading l.reader × (taken : List (List (List ℕ))) × (map fields_in (records_left l.fn.reader) ≡ taken ++ map fields_in (records_left l.reader)) × (length taken + 1 ≡ l.number)
    × (first_fault (table_checks g.T.TableRow.header g.T.TableRow.checks taken) ≡ None) × (l.rows.items ≡ table_rows g.T.TableRow.row_of taken)
