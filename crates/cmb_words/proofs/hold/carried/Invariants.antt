use Rattle.std.proofs.Common.{◌≤◌, ◌-◌}
use Rattle.cmb_words.proofs.SpanFacts.{AreCarried}
use Rattle.cmb_words.proofs.hold.carried.Given as goal

abbrev pub invariant-spans : goal.invariant-spans
invariant-spans l =
    (AreCarried l.fn.seen.ones l.ones l.arrival l.period l.span) × (AreCarried l.fn.seen.unknown l.unknown l.arrival l.period l.span)
    × (l.span ≤ l.period)

abbrev pub decreases-spans : goal.decreases-spans
decreases-spans l = l.period - l.span
