use Rattle.std.proofs.Common.{◌≡◌, ◌+◌, ◌-◌, ◌<◌, ◌≤◌, min, arith}
use Rattle.cmb_words.specs.Word.{level_at_place}
use Rattle.cmb_words.proofs.SpanFacts.{carried-init, carried-more, carried_level, carried_apart, carried-once}
use Rattle.cmb_words.proofs.hold.carried.Goals as goal

pub spans-init : goal.spans-init
spans-init c =
    let inside = c.requires.arrival in
    let some = c.requires.period in (
      carried-init c.args.seen.ones c.every-arrivals.result c.args.arrival c.args.period c.every-arrivals.ensures inside some,
      carried-init c.args.seen.unknown c.every-arrivals.result c.args.arrival c.args.period c.every-arrivals.ensures inside some,
      some,
    )

pub spans-preserved : goal.spans-preserved
spans-preserved c =
    let step : c.min-step.result ≡ min c.spans.span (c.args.period - c.spans.span) = c.min-step.ensures in
    let more : c.spans.span < c.args.period = c.spans-test.true in
    let begun = c.spans.invariant.0.least in
    let some : 1 ≤ c.min-step.result = omega (arith, step, more, begun) in
    let short : c.min-step.result ≤ c.spans.span = omega (arith, step) in
    let room : c.spans.span + c.min-step.result ≤ c.args.period = omega (arith, step, more) in (
      carried-more c.args.seen.ones c.spans.ones c.args.arrival c.args.period c.spans.span c.min-step.result c.spans.invariant.0
          some short room c.requires.arrival,
      carried-more c.args.seen.unknown c.spans.unknown c.args.arrival c.args.period c.spans.span c.min-step.result c.spans.invariant.1
          some short room c.requires.arrival,
      room,
    )

pub invariant_of-result : goal.invariant_of-result
invariant_of-result c =
    let full : min c.args.period (64 - c.args.arrival) ≤ c.spans.span = omega (arith, c.spans-test.false) in
    record {
      apart = carried_apart c.args.seen.ones c.args.seen.unknown c.spans.ones c.spans.unknown c.args.arrival c.args.period c.spans.span c.spans.invariant.0 c.spans.invariant.1 c.requires.period full c.args.seen.apart;
    }

pub returns-then-period-arrival : goal.returns-then-period-arrival
returns-then-period-arrival c = λ i from small.
    carried-once (level_at_place c.args.seen) (level_at_place c.everywhere.result) c.args.arrival c.args.period i c.if-period-arrival.true
    c.everywhere.ensures from small

pub returns : goal.returns
returns c =
    let full : min c.args.period (64 - c.args.arrival) ≤ c.spans.span = omega (arith, c.spans-test.false) in
    carried_level c.args.seen.ones c.args.seen.unknown c.spans.ones c.spans.unknown c.args.arrival c.args.period c.spans.span
    c.spans.invariant.0 c.spans.invariant.1 c.requires.period full
