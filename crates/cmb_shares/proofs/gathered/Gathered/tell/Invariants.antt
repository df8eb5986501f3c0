use Rattle.std.proofs.Common.{◌-◌, ◌*◌, ◌≤◌, length}
use Rattle.cmb_shares.specs.Inner.Gatherings.{AreTaken}
use Rattle.cmb_shares.proofs.gathered.Gathered.tell.Given as goal

abbrev pub invariant-loop-next : goal.invariant-loop-next
invariant-loop-next l = record {
  within : l.next ≤ length l.self.marks;
  taken : AreTaken l.self (64 * l.next) l.all.items;
}

abbrev pub decreases-loop-next : goal.decreases-loop-next
decreases-loop-next l = length l.self.marks - l.next
