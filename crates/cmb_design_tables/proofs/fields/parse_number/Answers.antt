use Rattle.std.proofs.Common.{arith, sym, length, ◌<◌, ◌≡◌, ◌∙◌, take}
use Rattle.std.proofs.lemmas.Bool.Decides.{nat_tests}
use Rattle.std.proofs.lemmas.List.{take_all}
use Rattle.cmb_design_tables.proofs.FieldFacts.{number-digits, number-empty, number-letter, number-long}
use Rattle.cmb_design_tables.proofs.fields.parse_number.Goals as goal
use Rattle.cmb_design_tables.proofs.fields.parse_number.Goals.{then-is_empty-via-then-is_empty, then-is_empty-via-else-is_empty+then-field-gt10}

pub returns-then-is_empty : goal.returns-then-is_empty
returns-then-is_empty c = elim c.then-is_empty.branch [
  | then-is_empty-via-then-is_empty w ↦ let n : length c.args.field.now ≡ 0 = grind (arith, nat_tests) in sym (number-empty _ n)
  | then-is_empty-via-else-is_empty+then-field-gt10 w ↦ sym (number-long _ (omega arith))
]

pub returns-then-not-is_ascii_digit : goal.returns-then-not-is_ascii_digit
returns-then-not-is_ascii_digit c = sym (number-letter c.args.field.now c.loop-digit.digit-index (omega arith) (sym c.is_ascii_digit.ensures.value ∙ c.if-not-is_ascii_digit.true))

pub returns : goal.returns
returns c =
    let xs = c.args.field.now in
    let e : take c.loop-digit.digit-index xs ≡ xs = take_all c.loop-digit.digit-index xs (omega arith) in
    let inv = rw e at c.loop-digit.invariant in
    let n : 0 < length xs = grind (arith, nat_tests) in
    rw inv.1 (sym (number-digits xs n (omega arith) inv.0))
