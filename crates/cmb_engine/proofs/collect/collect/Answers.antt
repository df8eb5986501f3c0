use Rattle.std.proofs.Common.{length}
use Rattle.cmb_engine.specs.Inner.Bits.{has}
use Rattle.cmb_engine.specs.Inner.Collects.{IsCollected}
use Rattle.cmb_engine.specs.Inner.Words.{levels_of}
use Rattle.cmb_engine.proofs.CollectFacts.{collected-end, collected-quiet, collected-word}
use Rattle.cmb_engine.proofs.collect.collect.Goals as goal
use Rattle.cmb_engine.proofs.collect.collect.Goals.{In_default}

pub collect_word-requires-clause-quiet : goal.collect_word-requires-clause-quiet
collect_word-requires-clause-quiet c =
    collected-quiet (levels_of c.args.words.now) (has c.args.wanted.now) c.args.live.now (length c.args.words.now) c.args.nets c.args.first c.requires.first c.requires.nets c.requires.quiet c.words.changed.items
    c.words.from _ c.in-Some.batch.base c.in-Some.batch.places c.in-Some.ensures.0

pub collect_word-requires-clause-collected : goal.collect_word-requires-clause-collected
collect_word-requires-clause-collected c =
    collected-word (levels_of c.args.words.now) (has c.args.wanted.now) c.args.live.now (length c.args.words.now) c.args.nets c.args.first c.requires.first c.requires.nets c.requires.quiet c.words.changed.items
    c.words.from _ c.in-Some.batch.base c.in-Some.batch.places c.in-Some.ensures.0 c.in-Some.ensures.1 c.words.invariant

-- where the loop ends, all nets are collected
at_end : (c : In_default) → IsCollected (levels_of c.args.words.now) (has c.args.wanted.now) c.args.first c.args.nets c.words.changed.items
at_end c =
    collected-end (levels_of c.args.words.now) (has c.args.wanted.now) c.args.live.now (length c.args.words.now) c.args.nets c.args.first c.requires.first c.requires.nets c.requires.quiet c.words.changed.items
    c.words.from c.in_default.ensures c.words.invariant

pub returns-clause-rises : goal.returns-clause-rises
returns-clause-rises c = (at_end c).rises

pub returns-clause-others : goal.returns-clause-others
returns-clause-others c = (at_end c).others

pub returns-clause-moved : goal.returns-clause-moved
returns-clause-moved c = (at_end c).moved
