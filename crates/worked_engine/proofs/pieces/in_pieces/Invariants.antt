use Rattle.std.specs.Prelude.{IsSome}
use Rattle.worked_engine.proofs.pieces.in_pieces.Given as goal

abbrev pub invariant-pieces : goal.invariant-pieces
invariant-pieces l = IsSome l.dump.begun

abbrev pub decreases-pieces : goal.decreases-pieces
decreases-pieces l = l.dump.left
