use Rattle.std.proofs.Common.{◌≡◌, ◌≤◌, ap, arith, length, map}
use Rattle.std.proofs.lemmas.List.{length-map}
use Rattle.cmb_design_tables.specs.Fields.{fields_in}
use Rattle.cmb_design_tables.specs.Records.{records_left, records_of, table_records}
use Rattle.cmb_design_tables.proofs.ReadFacts.{rows_are}
use Rattle.cmb_design_tables.proofs.RecordFacts.{length-records_of}
use Rattle.cmb_design_tables.proofs.table.read_table.Goals as goal

pub take_records-taken-requires-clause-few : goal.take_records-taken-requires-clause-few
take_records-taken-requires-clause-few g c = omega (arith, ap length c.open_records-reader.ensures.all, length-records_of c.args.text.now, c.requires.text)

pub new-requires : goal.new-requires
new-requires g c =
    let text = c.args.text.now in
    let few : length (table_records text) ≤ 16777216 = omega (arith, length-map (records_of text) fields_in, length-records_of text, c.requires.text) in
    let all : map fields_in (records_left c.open_records-reader.result) ≡ table_records text = ap (map fields_in) c.open_records-reader.ensures.all in
    let ok = rw all at c.in-Ok-taken.ensures.ok in
    rw ok.1 (rows_are g.T.TableRow.row_of _ g.T.TableRow.header g.T.TableRow.checks c.requires.lawful (table_records text) few ok.0)
