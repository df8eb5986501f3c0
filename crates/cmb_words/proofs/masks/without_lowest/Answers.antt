use Rattle.std.proofs.Common.{arith, refl, ◌<◌}
use Rattle.cmb_words.proofs.MaskFacts.{places_set-none, next_place, lowest_gone, others_stay}
use Rattle.cmb_words.proofs.LevelFacts.{none_set}
use Rattle.cmb_words.proofs.masks.without_lowest.Goals as goal

pub returns-then-mask-eq0-clause-rest : goal.returns-then-mask-eq0-clause-rest
returns-then-mask-eq0-clause-rest c = rw (c.if-mask-eq0.true, places_set-none)

pub returns-else-mask-eq0-clause-rest : goal.returns-else-mask-eq0-clause-rest
returns-else-mask-eq0-clause-rest c = rw (next_place c.args.mask (omega arith) c.ranges.mask.fits)

pub returns-then-mask-eq0-clause-gone : goal.returns-then-mask-eq0-clause-gone
returns-then-mask-eq0-clause-gone c place lowest = none_set place

pub returns-then-mask-eq0-clause-others : goal.returns-then-mask-eq0-clause-others
returns-then-mask-eq0-clause-others c place i lowest apart = rw c.if-mask-eq0.true refl

pub returns-else-mask-eq0-clause-gone : goal.returns-else-mask-eq0-clause-gone
returns-else-mask-eq0-clause-gone c place lowest =
    let some : 0 < c.args.mask = omega arith in
    lowest_gone c.args.mask place some c.ranges.mask.fits lowest

pub returns-else-mask-eq0-clause-others : goal.returns-else-mask-eq0-clause-others
returns-else-mask-eq0-clause-others c place i lowest apart =
    let some : 0 < c.args.mask = omega arith in
    others_stay c.args.mask place some c.ranges.mask.fits lowest i apart
