use Rattle.cmb_design_model.proofs.SampleFacts.{last_sample-none, last_sample-is, next_sample-is, next_sample-at_least, next_sample-least}
use Rattle.cmb_design_model.proofs.laws.samples_are_nearest.Goals as goal

pub returns : goal.returns
returns c = record {
  none = last_sample-none;
  last = λ clock tick positive. last_sample-is clock positive tick;
  next = next_sample-is;
  at_least = λ clock tick positive. next_sample-at_least clock positive tick;
  least = λ clock tick other positive. next_sample-least clock positive tick other;
}
