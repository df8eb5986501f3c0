use Rattle.cmb_run_text.proofs.ChosenFacts.{vcd_of-all, vcd_of-part}
use Rattle.cmb_run_text.proofs.laws.chosen_nets_have_their_text.Goals as goal

pub returns : goal.returns
returns c = record {
  all = vcd_of-all;
  part = vcd_of-part;
}
