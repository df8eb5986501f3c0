use Rattle.std.proofs.Common.{rules}
use Rattle.cmb_design_model.specs.Checks.{first_fault}
use Rattle.cmb_design_tables.specs.Readers.{initial_record_checks, initial_row_of}
use Rattle.cmb_design_tables.proofs.readers.read_first_level.Goals as goal

pub returns : goal.returns
unfolding first_fault initial_record_checks initial_row_of
returns c = search rules
