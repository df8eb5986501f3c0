use Rattle.std.specs.Prelude.{All}
use Rattle.cmb_engine.specs.Inner.Ends.{IsPaced}
use Rattle.cmb_engine.proofs.windows.paces_of.Given as goal

abbrev pub invariant-loop-net : goal.invariant-loop-net
invariant-loop-net l = All IsPaced l.paces.items
