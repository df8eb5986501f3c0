use Rattle.std.proofs.Common.{◌≡◌, ◌++◌, ◌-◌, drop}
use Rattle.cmb_run_scopes.proofs.HeaderFacts.{all_scopes}
use Rattle.cmb_run_scopes.proofs.header.+push_declarations.Given as goal

abbrev pub decreases-push_declarations : goal.decreases-push_declarations
decreases-push_declarations l = l.depth

abbrev pub invariant-loop-scope : goal.invariant-loop-scope
invariant-loop-scope l =
    l.out.items ++ all_scopes (l.depth - 1) l.paths l.level (drop l.scope-index l.scope-items) ≡ l.initial.out.items ++ all_scopes (l.depth - 1) l.paths l.level l.scope-items
