use Rattle.std.proofs.Common.{rules}
use Rattle.cmb_design_model.specs.Checks.{first_fault}
use Rattle.cmb_design_tables.specs.Readers.{clock_record_checks, clock_row_of}
use Rattle.cmb_design_tables.proofs.readers.read_clock.Goals as goal

pub returns : goal.returns
unfolding first_fault clock_record_checks clock_row_of
returns c = search rules
