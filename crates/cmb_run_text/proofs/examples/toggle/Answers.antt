use Rattle.std.proofs.Common.{refl}
use Rattle.cmb_run_text.specs.Vcd.{code_within, code, reference, var_line, var_lines, header, tick_line, level_line, level_lines, change_lines, tick_text, ticks_text, part_text, vcd}
use Rattle.std.specs.Fmt.{digits}
use Rattle.cmb_netlist.specs.Netlist.{number_of}
use Rattle.cmb_design_model.specs.Timing.{delay_by, level_by, row_level, clock_of, initial_level, last_sample}
use Rattle.cmb_design_model.specs.Value.{level_within, value}
use Rattle.cmb_run_text.proofs.examples.toggle.Goals as goal

pub returns : goal.returns
unfolding code_within code reference var_line var_lines header tick_line level_line level_lines change_lines tick_text ticks_text part_text digits number_of delay_by level_by row_level clock_of initial_level last_sample level_within value vcd
returns c = record { text = refl; below_0 = refl; below_3 = refl; below_4 = refl; below_12 = refl }
