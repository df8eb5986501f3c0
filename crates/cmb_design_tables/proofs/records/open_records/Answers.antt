use Rattle.std.proofs.Common.{refl}
use Rattle.cmb_design_tables.specs.Records.{records_left, records_of}
use Rattle.cmb_design_tables.proofs.records.open_records.Goals as goal

pub returns-clause-all : goal.returns-clause-all
unfolding records_left records_of
returns-clause-all c =
    let e = c.flexible.ensures in
    let f = c.has_headers.ensures in
    let from = c.from_reader.ensures in
    rw (from.source, from.state) refl
