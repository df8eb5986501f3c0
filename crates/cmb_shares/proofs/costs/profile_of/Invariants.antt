use Rattle.std.proofs.Common.{◌≡◌, ◌≤◌, ◌-◌, length}
use Rattle.cmb_design_model.specs.Exact.{nets_of}
use Rattle.cmb_shares.proofs.costs.profile_of.Given as goal

abbrev pub invariant-loop-engine : goal.invariant-loop-engine
invariant-loop-engine l = record {
  design : l.engine.design ≡ l.design;
  within : l.engine.clock ≤ l.design.horizon;
  all : length l.changes.items ≡ nets_of l.design;
}

abbrev pub decreases-loop-engine : goal.decreases-loop-engine
decreases-loop-engine l = l.design.horizon - l.engine.clock
