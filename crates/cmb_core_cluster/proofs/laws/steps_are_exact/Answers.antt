use Rattle.cmb_core_cluster.proofs.Steps.{step_piece-is_exact}
use Rattle.cmb_core_cluster.proofs.laws.steps_are_exact.Goals as goal

pub returns : goal.returns
returns c = step_piece-is_exact
