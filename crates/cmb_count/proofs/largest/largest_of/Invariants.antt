use Rattle.std.proofs.Common.{◌≤◌, ℕ}
use Rattle.cmb_design_model.specs.Timing.{delay}
use Rattle.cmb_count.specs.Largest.{IsDelayOfPin}
use Rattle.cmb_count.proofs.largest.largest_of.Given as goal

abbrev pub invariant-loop-place : goal.invariant-loop-place
invariant-loop-place l = record {
  least : l.least ≤ l.most;
  bounds : (pin : ℕ) → 1 ≤ pin → pin ≤ l.place → delay l.design l.net pin ≤ l.most;
  met : IsDelayOfPin l.design l.least → IsDelayOfPin l.design l.most;
}
