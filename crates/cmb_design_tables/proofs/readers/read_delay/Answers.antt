use Rattle.std.proofs.Common.{◌≡◌, sym, inl, inr, ⊎_elim, arith, Some, false, true}
use Rattle.std.proofs.lemmas.Result.{err_from_is_err_and}
use Rattle.cmb_design_tables.specs.Fields.{number}
use Rattle.cmb_design_model.specs.Nets.{is_within}
use Rattle.cmb_design_tables.proofs.ReaderFacts.{delay_checks-none, delay_checks-range, delay_checks-name, delay_row-is, is_within-above, is_within-below, is_within-true}
use Rattle.cmb_design_tables.proofs.readers.read_delay.Goals as goal
use Rattle.cmb_design_tables.proofs.readers.read_delay.Goals.{then-delay-lt1-via-then-delay-lt1, then-delay-lt1-via-else-delay-lt1+then-delay-gt1000000}

pub returns-in_err-what : goal.returns-in_err-what
returns-in_err-what c =
    let p = err_from_is_err_and c.from_residual.result c.from_residual.ensures.1 in
    let n : number c.in-Some.delay.now ≡ Some c.in-Some-parse_number.delay = sym c.in-Some-parse_number.ensures in
    rw (p.1, p.2, c.in-Some.ensures) (⊎_elim (λ m. inl m) (λ s. inr (delay_checks-name c.args.number c.in-Some.by.now c.in-Some.name.now c.in-Some.delay.now c.in-Some-parse_number.delay _ n s)) c.in_err-what.ensures)

pub returns-then-delay-lt1 : goal.returns-then-delay-lt1
returns-then-delay-lt1 c =
    let n : number c.in-Some.delay.now ≡ Some c.in-Some-parse_number.delay = sym c.in-Some-parse_number.ensures in
    let within : is_within 1 1000000 c.in-Some-parse_number.delay ≡ false = elim c.then-delay-lt1.branch [
      | then-delay-lt1-via-then-delay-lt1 w ↦ is_within-below 1 1000000 c.in-Some-parse_number.delay (omega arith)
      | then-delay-lt1-via-else-delay-lt1+then-delay-gt1000000 w ↦ is_within-above 1 1000000 c.in-Some-parse_number.delay (omega arith)
    ] in
    rw c.in-Some.ensures (inr (delay_checks-range c.args.number c.in-Some.by.now c.in-Some.name.now c.in-Some.delay.now c.in-Some-parse_number.delay n c.in_ok-what.ensures.0 within))

pub returns : goal.returns
returns c =
    let n : number c.in-Some.delay.now ≡ Some c.in-Some-parse_number.delay = sym c.in-Some-parse_number.ensures in
    let within : is_within 1 1000000 c.in-Some-parse_number.delay ≡ true = is_within-true 1 1000000 c.in-Some-parse_number.delay (omega arith) (omega arith) in
    rw c.in-Some.ensures (
      delay_checks-none c.args.number c.in-Some.by.now c.in-Some.name.now c.in-Some.delay.now c.in-Some-parse_number.delay n c.in_ok-what.ensures.0 within,
      rw c.in_ok-what.ensures.1 (sym (delay_row-is c.in-Some.by.now c.in-Some.name.now c.in-Some.delay.now c.in-Some-parse_number.delay n)),
    )
