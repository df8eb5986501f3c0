use Rattle.std.proofs.Common.{◌≡◌, length, take}
use Rattle.cmb_netlist.proofs.name.are_same.Given as goal

abbrev pub invariant-loop-i : goal.invariant-loop-i
invariant-loop-i l = (length l.a ≡ length l.b) × (take l.i l.a ≡ take l.i l.b)
