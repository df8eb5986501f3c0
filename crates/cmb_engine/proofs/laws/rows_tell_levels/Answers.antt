use Rattle.cmb_engine.proofs.RowFacts.{rows-tell}
use Rattle.cmb_engine.proofs.laws.rows_tell_levels.Goals as goal

pub returns : goal.returns
returns c = rows-tell
