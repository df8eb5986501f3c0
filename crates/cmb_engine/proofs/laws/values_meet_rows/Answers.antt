use Rattle.cmb_engine.proofs.RowFacts.{value-meets_row}
use Rattle.cmb_engine.proofs.laws.values_meet_rows.Goals as goal

pub returns : goal.returns
returns c = value-meets_row
