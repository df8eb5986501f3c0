use Rattle.std.proofs.Common.{◌<◌}
use Rattle.std.specs.Prelude.{All}
use Rattle.cmb_engine.proofs.BatchFacts.{IsPassing}
use Rattle.cmb_engine.proofs.settle.pass_on.Given as goal

abbrev pub invariant-loop-place : goal.invariant-loop-place
invariant-loop-place l = record {
  small : All (λ place. place < 64) l.place-iterator;
  passing : IsPassing l.fanout.order l.news.base l.news.places l.place-iterator l.fanout.gates l.fanout.flops l.opened l.initial.marks l.marks l.initial.live l.live;
}
