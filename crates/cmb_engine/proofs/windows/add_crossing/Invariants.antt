use Rattle.std.proofs.Common.{ℕ, ◌<◌}
use Rattle.std.specs.Prelude.{All, Contains}
use Rattle.cmb_design_model.specs.Timing.{delay}
use Rattle.cmb_engine.specs.Crossings.{IsCrossing}
use Rattle.cmb_engine.specs.Inner.Ends.{pace_of, IsPaced}
use Rattle.cmb_engine.proofs.windows.add_crossing.Given as goal

abbrev pub invariant-loop-net : goal.invariant-loop-net
invariant-loop-net l = record {
  paced : All IsPaced l.paces.items;
  ending : (net : ℕ) → net < l.net → IsCrossing l.design l.crossing net → Contains l.paces.items (pace_of l.design net) × (delay l.design net 1 < l.width);
}
