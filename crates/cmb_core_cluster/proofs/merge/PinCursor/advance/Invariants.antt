use Rattle.std.proofs.Common.{◌≡◌, ℕ, ◌≤◌, length}
use Rattle.cmb_core_cluster.specs.Inner.Arrivals.{due_of, pin_at}
use Rattle.cmb_core_cluster.proofs.merge.PinCursor.advance.Given as goal

abbrev pub invariant-loop-due : goal.invariant-loop-due
invariant-loop-due l = record {
  same : (t : ℕ) → l.now ≤ t → pin_at l.self t ≡ pin_at l.initial.self t;
  due : l.due ≡ due_of l.self.lag l.self.rest.now;
}

abbrev pub decreases-loop-due : goal.decreases-loop-due
decreases-loop-due l = length l.self.rest.now
