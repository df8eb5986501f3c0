use Rattle.std.proofs.Common.{◌≡◌, ◌-◌, length}
use Rattle.cmb_cone.specs.Inner.Found.{IsFound}
use Rattle.cmb_cone.proofs.FoundFacts.{Asked}
use Rattle.cmb_cone.proofs.closed.follow.Given as goal

abbrev pub invariant-loop-done : goal.invariant-loop-done
invariant-loop-done l = record {
  found : IsFound l.found;
  marks : length l.found.marks.items ≡ length l.netlist.names;
  asked : Asked l.netlist l.initial.found.list.items l.found.list.items l.done;
}

abbrev pub decreases-loop-done : goal.decreases-loop-done
decreases-loop-done l = length l.netlist.names - l.done
