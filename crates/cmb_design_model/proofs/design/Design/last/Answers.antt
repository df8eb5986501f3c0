use Rattle.cmb_design_model.proofs.AskFacts.{clock_of-positive}
use Rattle.cmb_design_model.proofs.design.Design.last.Goals as goal

pub last_at-requires : goal.last_at-requires
last_at-requires c = rw c.clock.ensures.value (clock_of-positive c.args.self.now c.args.net)
