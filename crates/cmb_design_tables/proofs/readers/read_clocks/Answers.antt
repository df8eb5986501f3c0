use Rattle.cmb_design_tables.proofs.ReadFacts.{clock_good}
use Rattle.cmb_design_tables.proofs.readers.read_clocks.Goals as goal

pub read_table-requires-clause-lawful : goal.read_table-requires-clause-lawful
read_table-requires-clause-lawful c = clock_good
