use Rattle.std.proofs.Common.{◌≡◌, ◌+◌, ◌-◌, ◌≤◌, arith}
use Rattle.std.specs.Prelude.{if◌then◌else◌}
use Rattle.cmb_words.specs.Bits.{is_set_at}
use Rattle.cmb_activity.specs.Inner.Tallies.{ticks_before}
use Rattle.cmb_activity.specs.Inner.SetBits.{set_bits}
use Rattle.cmb_activity.proofs.OnesFacts.{nothing_counts, of_last}
use Rattle.cmb_activity.proofs.TallyFacts.{grown, known_changes}
use Rattle.cmb_activity.proofs.tally.Tally.grown.Goals as goal

pub returns-then-word-ticks-eq0 : goal.returns-then-word-ticks-eq0
returns-then-word-ticks-eq0 c level tally tells =
    grown level c.args.word.ones c.args.word.unknown c.changes_from.result c.args.from c.args.upto c.args.horizon c.args.self _ c.args.word.apart
    c.requires.order c.requires.short c.requires.within
    (known_changes c.args.word.ones c.args.word.unknown c.changes_from.result (c.args.upto - c.args.from) some most c.if-word-ticks-eq0.true c.changes_from.ensures.from)
    tells (omega (arith, c.requires.fits.least, c.gained.ensures.value, c.lost.ensures, c.from.ensures, changes, none)) tally
  where
    some : 1 ≤ c.args.upto - c.args.from
    some = omega (arith, c.requires.order)

    most : c.args.upto - c.args.from ≤ 63
    most = omega (arith, c.requires.short)

    changes : 0 + c.set_from-changes.result ≡ 0 + set_bits c.changes_from.result (64 - (c.args.upto - c.args.from)) (c.args.upto - c.args.from)
    changes = of_last c.changes_from.result (c.args.upto - c.args.from) c.set_from-changes.result 0 most c.set_from-changes.ensures.value

    none : 0 + ticks_before c.args.word.unknown (c.args.upto - c.args.from) (c.args.horizon - c.args.upto)
        ≡ 0 + set_bits c.args.word.unknown (64 - (c.args.upto - c.args.from)) (c.args.upto - c.args.from) + (if is_set_at c.args.word.unknown 63 then c.args.horizon - c.args.upto else 0)
    none = nothing_counts 0 c.args.word.unknown (c.args.upto - c.args.from) (c.args.horizon - c.args.upto) some most c.if-word-ticks-eq0.true

pub returns-else-word-ticks-eq0 : goal.returns-else-word-ticks-eq0
returns-else-word-ticks-eq0 c level tally tells =
    grown level c.args.word.ones c.args.word.unknown c.changes_from-else-word-ticks-eq0.result c.args.from c.args.upto c.args.horizon c.args.self _ c.args.word.apart
    c.requires.order c.requires.short c.requires.within c.changes_from-else-word-ticks-eq0.ensures.from tells
    (omega (
      arith,
      c.requires.fits.least,
      c.gained.ensures.value,
      c.lost.ensures,
      c.gained-else-word-ticks-eq0.ensures.value,
      c.lost-else-word-ticks-eq0.ensures,
      c.from-else-word-ticks-eq0.ensures,
      changes,
    )) tally
  where
    changes : 0 + c.set_from-changes-else-word-ticks-eq0.result
        ≡ 0 + set_bits c.changes_from-else-word-ticks-eq0.result (64 - (c.args.upto - c.args.from)) (c.args.upto - c.args.from)
    changes =
        of_last c.changes_from-else-word-ticks-eq0.result (c.args.upto - c.args.from) c.set_from-changes-else-word-ticks-eq0.result 0
        (omega (arith, c.requires.short)) c.set_from-changes-else-word-ticks-eq0.ensures.value
