use Rattle.std.proofs.Common.{◌≡◌, ◌∙◌, ap, arith}
use Rattle.std.specs.Prelude.{bytes_eq, decimal}
use Rattle.cmb_run_scopes.proofs.BitFacts.{compared, number-more, too_large}
use Rattle.cmb_run_scopes.proofs.bits.is_index.Goals as goal

pub loop-byte-preserved : goal.loop-byte-preserved
loop-byte-preserved c =
    let more = number-more c.args.bytes.now c.loop-byte.byte-index c.loop-byte-test.true in
    record { read = omega (arith, c.loop-byte.invariant.read, c.saturating_sub.ensures, c.from.ensures); small = omega arith }

pub returns-then-number-ge-MOST_BITS : goal.returns-then-number-ge-MOST_BITS
returns-then-number-ge-MOST_BITS c =
    too_large c.args.bytes.now c.loop-byte.byte-index c.loop-byte-test.true (omega (arith, c.loop-byte.invariant.read, c.saturating_sub.ensures, c.from.ensures))

pub returns : goal.returns
returns c =
    let text : c.as_bytes.result.now ≡ decimal c.loop-byte.number = c.as_bytes.ensures.value ∙ c.format.ensures.text in
    c.eq.ensures ∙ ap (bytes_eq c.args.bytes.now) text
    ∙ compared c.args.bytes.now c.loop-byte.byte-index c.loop-byte.number c.loop-byte-test.false c.loop-byte.invariant.read c.loop-byte.invariant.small
