use Rattle.cmb_design_model.proofs.ValueFacts.{value-at_input, value-at_gate, value-at_flop}
use Rattle.cmb_design_model.proofs.laws.levels_by_driver.Goals as goal

pub returns : goal.returns
returns c = record { input = value-at_input; gate = value-at_gate; flop = value-at_flop }
