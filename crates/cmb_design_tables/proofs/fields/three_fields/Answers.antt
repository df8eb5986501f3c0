use Rattle.std.proofs.Common.{arith, length, ◌≡◌}
use Rattle.std.proofs.lemmas.List.{length-map}
use Rattle.csv.specs.Records.{fields_of}
use Rattle.cmb_design_tables.specs.Fields.{fields_in, trimmed}
use Rattle.cmb_design_tables.proofs.FieldFacts.{three_of}
use Rattle.cmb_design_tables.proofs.fields.three_fields.Goals as goal

pub returns-then-len-eq3 : goal.returns-then-len-eq3
returns-then-len-eq3 c =
    let n : length (fields_in (fields_of c.args.row.now)) ≡ 3 = omega (arith, length-map (fields_of c.args.row.now) trimmed) in
    three_of _ _ _ _ n c.trimmed_at.ensures c.trimmed_at-then-len-eq3.ensures c.trimmed_at-then-len-eq3-2.ensures
