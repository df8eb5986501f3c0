use Rattle.std.proofs.Common.{◌+◌, ◌≤◌, length, vec_len, vec_capacity}
use Rattle.cmb_engine.specs.Inner.Bits.{has}
use Rattle.cmb_engine.specs.Inner.Known.{known_levels}
use Rattle.cmb_engine.proofs.CollectFacts.{IsCollecting}
use Rattle.cmb_engine.proofs.known_passes.collect_known.Given as goal

abbrev pub invariant-loop-place : goal.invariant-loop-place
invariant-loop-place l = record {
  collecting : IsCollecting (known_levels l.ones) (has l.wanted) l.first l.batch.base l.places l.nets l.place-iterator l.changed.items;
  room : vec_len l.changed + length l.place-iterator ≤ vec_capacity l.changed;
}
