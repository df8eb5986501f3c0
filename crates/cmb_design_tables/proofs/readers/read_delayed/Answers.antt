use Rattle.std.proofs.Common.{rules}
use Rattle.cmb_design_model.specs.Checks.{first_fault}
use Rattle.cmb_design_tables.specs.Readers.{delayed_of, name_checks, pin_checks}
use Rattle.cmb_design_tables.proofs.readers.read_delayed.Goals as goal

pub returns-in-Some : goal.returns-in-Some
unfolding first_fault name_checks delayed_of
returns-in-Some c = search rules

pub returns-in_ok-read_name : goal.returns-in_ok-read_name
unfolding first_fault name_checks delayed_of
returns-in_ok-read_name c = search rules

pub returns-then-eq-3 : goal.returns-then-eq-3
unfolding first_fault pin_checks name_checks delayed_of
returns-then-eq-3 c = search rules
