use Rattle.std.proofs.Common.{◌≡◌, ◌++◌, length}
use Rattle.cmb_run_scopes.specs.Scopes.{pieces}
use Rattle.cmb_run_scopes.proofs.parts.pieces_of.Given as goal

abbrev pub invariant-loop-dot : goal.invariant-loop-dot
invariant-loop-dot l = l.parts.items ++ pieces l.rest ≡ pieces l.name

abbrev pub decreases-loop-dot : goal.decreases-loop-dot
decreases-loop-dot l = length l.rest
