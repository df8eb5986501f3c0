use Rattle.cmb_core_protocol.proofs.Commute.{steps-commute}
use Rattle.cmb_core_protocol.proofs.laws.steps_commute.Goals as goal

pub returns : goal.returns
returns c = steps-commute
