use Rattle.cmb_engine.proofs.BitFacts.{take-left, take-less, take-members, take-taken}
use Rattle.cmb_engine.proofs.bits.Bits.take.Goals as goal

pub returns-clause-less : goal.returns-clause-less
returns-clause-less c =
    take-less c.self.inside.words.items c.args.self.now c.self.view_is c.args.k c.index-word.result.now c.args.mask c.index-word.ensures c.requires c.ranges.mask.fits

pub returns-clause-left : goal.returns-clause-left
returns-clause-left c =
    take-left c.self.inside.words.items c.args.self.now c.self.view_is c.args.k c.index-word.result.now c.args.mask c.index-word.ensures c.requires c.ranges.mask.fits

pub returns-clause-taken : goal.returns-clause-taken
returns-clause-taken c =
    take-taken c.self.inside.words.items c.args.self.now c.self.view_is c.args.k c.index-word.result.now c.args.mask c.index-word.ensures c.requires c.ranges.mask.fits

pub returns-clause-members : goal.returns-clause-members
returns-clause-members c =
    take-members c.self.inside.words.items c.args.self.now c.self.view_is c.args.k c.index-word.result.now c.args.mask c.index-word.ensures c.requires c.ranges.mask.fits
