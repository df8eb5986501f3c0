use Rattle.std.proofs.Common.{◌-◌, ◌*◌, length, min}
use Rattle.cmb_engine.specs.Inner.Bits.{has}
use Rattle.cmb_engine.specs.Inner.Collects.{IsCollected}
use Rattle.cmb_engine.specs.Inner.Words.{levels_of}
use Rattle.cmb_engine.proofs.collect.collect.Given as goal

abbrev pub invariant-words : goal.invariant-words
invariant-words l = IsCollected (levels_of l.words) (has l.wanted) l.first (min (64 * l.from) l.nets) l.changed.items

abbrev pub decreases-words : goal.decreases-words
decreases-words l = length l.live - l.from
