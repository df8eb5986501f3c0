use Rattle.std.proofs.Common.{refl, ap, sym, ◌∙◌, ◌∷◌, [], List, ℕ, length, map, ◌++◌, arith, inl, inr, ⊎_elim, append_assoc, length-append}
use Rattle.std.proofs.lemmas.List.{length-map}
use Rattle.std.proofs.lemmas.Result.{err_from_is_err_and}
use Rattle.csv.specs.Records.{fields_of}
use Rattle.cmb_design_model.specs.Checks.{Check, checks_after, first_fault}
use Rattle.cmb_design_tables.specs.Fields.{fields_in}
use Rattle.cmb_design_tables.specs.Readers.{record_checks}
use Rattle.cmb_design_tables.specs.Records.{records_left}
use Rattle.cmb_design_model.proofs.CheckFacts.{Checks, pass_next, refuse_next}
use Rattle.cmb_design_tables.proofs.TableFacts.{records_next_taken, rows_next}
use Rattle.cmb_design_tables.proofs.table.take_records.Goals as goal

abbrev checks_in : List (List ℕ) → (ℕ → List (List ℕ) → List Check) → Checks (List (List ℕ))
checks_in header checks n earlier fields = record_checks header checks n fields

pub loop-number-init : goal.loop-number-init
unfolding checks_after first_fault
loop-number-init g c = (c.requires.reading, [], refl, refl, refl, c.requires.none)

pub returns-in_err-take_record-in-Ok-true-clause-err : goal.returns-in_err-take_record-in-Ok-true-clause-err
returns-in_err-take_record-in-Ok-true-clause-err g c =
    let p = err_from_is_err_and c.from_residual.result c.from_residual.ensures.1 in
    let inv = c.loop-number.invariant in
    let next = rw c.in-Ok-true.field-0-test at c.in-Ok-true.ensures in
    let checks = checks_in g.T.TableRow.header g.T.TableRow.checks in
    let f = fields_of c.next_record.new.row in
    let rest = map fields_in (records_left c.next_record.new.reader) in
    let all = records_next_taken (map fields_in (records_left c.args.reader.now)) inv.1 (records_left c.loop-number.reader) (records_left c.next_record.new.reader) f inv.2 next.1 in
    let e = c.in_err-take_record-in-Ok-true.field-0.0 in
    let stands = refuse_next checks 1 c.loop-number.number inv.1 rest (fields_in f) e (omega (arith, inv.3)) inv.4 in
    rw (p.1, p.2) (⊎_elim (λ m. inl m) (λ s. inr (rw all (stands s))) c.in_err-take_record-in-Ok-true.ensures.err)

pub loop-number-preserved : goal.loop-number-preserved
loop-number-preserved g c =
    let inv = c.loop-number.invariant in
    let next = rw c.in-Ok-true.field-0-test at c.in-Ok-true.ensures in
    let f = fields_of c.next_record.new.row in
    let ok = c.in_ok-take_record-in-Ok-true.ensures.ok in
    let checks = checks_in g.T.TableRow.header g.T.TableRow.checks in
    let all = records_next_taken (map fields_in (records_left c.args.reader.now)) inv.1 (records_left c.loop-number.reader) (records_left c.next_record.new.reader) f inv.2 next.1 in (
      next.0,
      inv.1 ++ fields_in f ∷ [],
      all ∙ sym (append_assoc inv.1 (fields_in f ∷ []) (map fields_in (records_left c.next_record.new.reader))),
      omega (arith, length-append inv.1 (fields_in f ∷ []), inv.3),
      pass_next checks 1 c.loop-number.number inv.1 (fields_in f) (omega (arith, inv.3)) inv.4 ok.0,
      rows_next g.T.TableRow.row_of inv.1 (fields_in f) c.loop-number.number c.loop-number.rows.items c.take_record.new.rows.items inv.3 inv.5 ok.1,
    )

pub unreachable-requires : goal.unreachable-requires
unreachable-requires g c =
    let inv = c.loop-number.invariant in
    let all = ap length inv.2 in
    omega (arith, length-append inv.1 (map fields_in (records_left c.loop-number.reader)), length-map (records_left c.args.reader.now) fields_in, inv.3, c.requires.few)
