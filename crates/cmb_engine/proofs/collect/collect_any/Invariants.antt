use Rattle.cmb_engine.specs.Inner.Bits.{has}
use Rattle.cmb_engine.specs.Inner.Words.{levels_of}
use Rattle.cmb_engine.proofs.CollectFacts.{IsCollecting}
use Rattle.cmb_engine.proofs.collect.collect_any.Given as goal

abbrev pub invariant-loop-place : goal.invariant-loop-place
invariant-loop-place l = IsCollecting (levels_of l.words) (has l.wanted) l.first l.batch.base l.batch.places l.nets l.place-iterator l.changed.items
