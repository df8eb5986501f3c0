use Rattle.std.proofs.Common.{refl}
use Rattle.cmb_wave.specs.Waveform.{change_at, changes_in, changes_between}
use Rattle.cmb_netlist.specs.Netlist.{number_of}
use Rattle.cmb_design_model.specs.Timing.{delay_by, level_by, row_level, clock_of, initial_level, last_sample}
use Rattle.cmb_design_model.specs.Value.{level_within, value}
use Rattle.cmb_design_model.proofs.examples.delay_rows.Goals as goal

pub returns : goal.returns
unfolding change_at changes_in changes_between number_of delay_by level_by row_level clock_of initial_level last_sample level_within value
returns c = refl
