use Rattle.cmb_run_scopes.proofs.Counted.{declared-once, declared-there}
use Rattle.cmb_run_scopes.proofs.laws.nets_are_declared_once.Goals as goal

pub returns : goal.returns
returns c = record { once = declared-once; there = declared-there }
