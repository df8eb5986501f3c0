use Rattle.std.proofs.Common.{◌<◌, ◌≤◌, take}
use Rattle.std.specs.Prelude.{All}
use Rattle.cmb_engine.specs.Shares.{ShareEngine}
use Rattle.cmb_shares.proofs.opening.least_width.Given as goal

abbrev pub invariant-loop-one : goal.invariant-loop-one
invariant-loop-one l = record {
  wide : 2 ≤ l.width;
  narrow : l.width < 63;
  least : All (λ (one : ShareEngine). l.width ≤ one.width) (take l.one-index l.engines);
}
