use Rattle.cmb_design_model.proofs.ValueFacts.{driven_level-agrees}
use Rattle.cmb_design_model.proofs.laws.drivers_look_back.Goals as goal

pub returns : goal.returns
returns c = λ design levels others net tick driver agree. driven_level-agrees design levels others net tick agree driver
