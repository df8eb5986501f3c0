use Rattle.cmb_design_model.specs.Timing.{clock_of, delay}
use Rattle.cmb_design_model.proofs.AskFacts.{clock_of-positive}
use Rattle.cmb_engine.proofs.ArrivalFacts.{arrives-sample, sample-arrives}
use Rattle.cmb_engine.proofs.laws.samples_arrive.Goals as goal

pub returns : goal.returns
returns c = λ design net tick. (
  arrives-sample (clock_of design net) (delay design net 1) tick,
  λ h. sample-arrives (clock_of design net) (delay design net 1) tick (clock_of-positive design net) h.0 h.1,
)
