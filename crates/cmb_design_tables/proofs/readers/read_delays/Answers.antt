use Rattle.cmb_design_tables.proofs.ReadFacts.{delay_good}
use Rattle.cmb_design_tables.proofs.readers.read_delays.Goals as goal

pub read_table-requires-clause-lawful : goal.read_table-requires-clause-lawful
read_table-requires-clause-lawful c = delay_good
