use Rattle.std.proofs.Common.{arith, length, ◌≡◌}
use Rattle.std.proofs.lemmas.List.{length-map}
use Rattle.csv.specs.Records.{fields_of}
use Rattle.cmb_design_tables.specs.Fields.{fields_in, trimmed}
use Rattle.cmb_design_tables.proofs.FieldFacts.{two_of}
use Rattle.cmb_design_tables.proofs.fields.two_fields.Goals as goal

pub returns-then-len-eq2 : goal.returns-then-len-eq2
returns-then-len-eq2 c =
    let n : length (fields_in (fields_of c.args.row.now)) ≡ 2 = omega (arith, length-map (fields_of c.args.row.now) trimmed) in
    two_of _ _ _ n c.trimmed_at.ensures c.trimmed_at-then-len-eq2.ensures
