use Rattle.std.proofs.Common.{◌<◌}
use Rattle.cmb_graph.proofs.StartFacts.{low_all, popped}
use Rattle.cmb_graph.proofs.SearchFacts.{pairs_front}
use Rattle.cmb_graph.proofs.part.merge.Goals as goal

pub loop-starts-preserved : goal.loop-starts-preserved
loop-starts-preserved c =
    popped c.args.starts.now.items c.loop-starts.starts.items c.as_slice.result.now c.pop.new.self.items c.loop-starts.invariant.0 _ c.args.place c.as_slice.ensures.value
    c.as_slice.ensures.len (c.ends_behind.ensures.yes c.loop-starts-test.true) (c.ends_behind.ensures.behind c.loop-starts-test.true) c.pop.ensures.rest c.loop-starts.invariant.1
    c.loop-starts.invariant.2

pub returns-clause-low : goal.returns-clause-low
returns-clause-low c = λ rise.
    low_all c.loop-starts.starts.items c.args.place
    (pairs_front (λ one other. one < other) c.loop-starts.starts.items c.loop-starts.invariant.0 (rw c.loop-starts.invariant.1 at rise))
    (rw c.as_slice.ensures.value at (c.ends_behind.ensures.no c.loop-starts-test.false))
