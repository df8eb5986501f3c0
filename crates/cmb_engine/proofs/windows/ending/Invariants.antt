use Rattle.std.specs.Prelude.{All}
use Rattle.cmb_engine.specs.Inner.Ends.{IsPaced}
use Rattle.cmb_engine.proofs.windows.ending.Given as goal

abbrev pub invariant-loop-pace : goal.invariant-loop-pace
invariant-loop-pace l = All IsPaced l.ending.items
