use Rattle.std.proofs.Common.{◌≡◌, ◌∙◌, refl, sym, inr, true, false}
use Rattle.std.specs.Cmp.Lexicographic.{pointwise}
use Rattle.std.specs.Str.{bytes_eq}
use Rattle.csv.specs.Records.{fields_of}
use Rattle.cmb_design_model.specs.Checks.{first_fault}
use Rattle.cmb_design_tables.specs.Fields.{fields_in}
use Rattle.cmb_design_tables.proofs.table.take_record.Goals as goal

pub returns-then-is_header-clause-ok : goal.returns-then-is_header-clause-ok
unfolding first_fault
returns-then-is_header-clause-ok g c =
    let e = c.if-number-eq1.true in
    let h : pointwise bytes_eq (fields_in (fields_of c.args.row.now)) g.T.TableRow.header ≡ true = sym c.is_header.ensures ∙ c.if-is_header.true in
    rw (e, h) (refl, refl)

pub returns-else-is_header-clause-err : goal.returns-else-is_header-clause-err
unfolding first_fault
returns-else-is_header-clause-err g c =
    let e = c.if-number-eq1.true in
    let h : pointwise bytes_eq (fields_in (fields_of c.args.row.now)) g.T.TableRow.header ≡ false = sym c.is_header.ensures ∙ c.if-is_header.false in
    inr (rw (e, h) refl)
