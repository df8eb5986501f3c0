use Rattle.cmb_chosen.specs.Inner.Levels.{AreRenumbered}
use Rattle.cmb_chosen.proofs.expectations.renumbered.Given as goal

abbrev pub invariant-loop-i : goal.invariant-loop-i
invariant-loop-i l = AreRenumbered l.rows l.nets l.i l.placed.items
