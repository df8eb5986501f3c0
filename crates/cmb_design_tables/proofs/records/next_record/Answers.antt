use Rattle.csv.specs.Records.{fields_of}
use Rattle.cmb_design_tables.proofs.RecordFacts.{record_read}
use Rattle.cmb_design_tables.proofs.records.next_record.Goals as goal

pub returns-in-Ok : goal.returns-in-Ok
returns-in-Ok c =
    let h = c.requires in
    let read = c.in-Ok.ensures in
    record_read c.args.reader.now c.read_byte_record.new.self c.in-Ok.found (fields_of c.read_byte_record.new.row) h (read.ready h.plain) read.flexible (read.reads h.plain h.ready)
