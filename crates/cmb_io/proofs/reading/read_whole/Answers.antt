use Rattle.std.proofs.Common.{rules, arith, length-append, length-take}
use Rattle.std.proofs.KnownBytes.{Consumes-trans}
use Rattle.cmb_io.proofs.Read.{IsWhole-after, IsTooLong-of, Consumes-more}
use Rattle.cmb_io.proofs.reading.read_whole.Goals as goal

pub returns-then-count-eq0-clause-whole : goal.returns-then-count-eq0-clause-whole
returns-then-count-eq0-clause-whole g c =
    let h = c.in-Ok-read.ensures.bytes in
    IsWhole-after _ _ _ _ _ _ c.loop-count.invariant.1 h.0 c.if-count-eq0.true (h.1 c.if-count-eq0.true (search rules)) (search rules)

pub returns-then-count-len-clause-too_long : goal.returns-then-count-len-clause-too_long
returns-then-count-len-clause-too_long g c e =
    let h = c.in-Ok-read.ensures.bytes in
    let f = c.in-Ok-read.ensures.failures in
    let b = c.in-Ok-read.ensures.bound in
    (IsTooLong-of _ _ _ (Consumes-trans _ _ _ _ _ c.loop-count.invariant.1 h.0) (simp (length-append, length-take) (omega arith)), cc)

pub loop-count-preserved : goal.loop-count-preserved
loop-count-preserved g c = let h = c.in-Ok-read.ensures.bytes in
    let f = c.in-Ok-read.ensures.failures in
    (cc, Consumes-more _ _ _ _ _ _ c.loop-count.invariant.1 h.0 (search rules), search rules, search rules)
