use Rattle.std.proofs.Common.{sym, ap, ◌∙◌, Some, None}
use Rattle.std.proofs.lemmas.Bool.{false≢true}
use Rattle.csv.specs.Records.{fields_of}
use Rattle.cmb_design_tables.proofs.FieldFacts.{field_trimmed}
use Rattle.cmb_design_tables.proofs.fields.trimmed_at.Goals as goal

pub returns-in-Some : goal.returns-in-Some
returns-in-Some c =
    (field_trimmed (fields_of c.args.row.now) c.args.i c.requires (Some c.in-Some.field) c.in-Some.ensures.value).0 ∙ ap Some (sym c.trim_blanks.ensures)

pub returns-in-None : goal.returns-in-None
returns-in-None c =
    absurd (false≢true (field_trimmed (fields_of c.args.row.now) c.args.i c.requires None c.in-None.ensures.value).1)
