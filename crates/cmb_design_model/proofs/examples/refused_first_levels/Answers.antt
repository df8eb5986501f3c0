use Rattle.std.proofs.Common.{refl}
use Rattle.cmb_netlist.specs.Netlist.{number_of}
use Rattle.cmb_design_model.specs.Checks.{first_fault, checks_after}
use Rattle.cmb_design_model.specs.Rows.{delayed_checks, delay_row_checks, stimulus_row_checks, clock_row_checks, initial_row_checks}
use Rattle.cmb_design_model.specs.Settings.{any_below, setting_checks}
use Rattle.cmb_design_model.proofs.examples.refused_first_levels.Goals as goal

pub returns : goal.returns
unfolding number_of first_fault checks_after delayed_checks delay_row_checks stimulus_row_checks clock_row_checks initial_row_checks any_below setting_checks
returns c = record { of_input = refl; of_none = refl; twice = refl; behind = refl; stands = refl }
