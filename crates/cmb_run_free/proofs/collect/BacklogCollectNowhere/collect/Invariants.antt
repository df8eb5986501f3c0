use Rattle.std.proofs.Common.{◌≡◌}
use Rattle.cmb_run_free.proofs.collect.BacklogCollectNowhere.collect.Given as goal

abbrev pub invariant-loop : goal.invariant-loop
invariant-loop g l =
    (goal.iterator-loop g).can_next l.iterator' × (goal.iterator-loop g).is_finite l.iterator'
    × (l.self.written ≡ l.fn.self.written)
