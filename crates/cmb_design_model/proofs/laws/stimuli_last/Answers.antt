use Rattle.cmb_design_model.specs.Timing.{row_level}
use Rattle.cmb_design_model.proofs.SampleFacts.{level_by-at, level_by-since, level_by-before}
use Rattle.cmb_design_model.proofs.laws.stimuli_last.Goals as goal

pub returns : goal.returns
returns c = record {
  at = λ design net tick level. level_by-at (row_level design.netlist design.stimuli net) tick level;
  since = λ design net from more. level_by-since (row_level design.netlist design.stimuli net) from more;
  before = λ design net tick. level_by-before (row_level design.netlist design.stimuli net) tick;
}
