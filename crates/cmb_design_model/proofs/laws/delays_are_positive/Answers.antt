use Rattle.cmb_design_model.proofs.SampleFacts.{delay-positive}
use Rattle.cmb_design_model.proofs.laws.delays_are_positive.Goals as goal

pub returns : goal.returns
returns c = delay-positive
