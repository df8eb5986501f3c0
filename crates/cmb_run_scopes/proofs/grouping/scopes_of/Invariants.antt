use Rattle.std.proofs.Common.{◌≡◌, take}
use Rattle.cmb_run_scopes.specs.Scopes.{scopes}
use Rattle.cmb_run_scopes.specs.Inner.Grouped.{grouped}
use Rattle.cmb_run_scopes.proofs.grouping.scopes_of.Given as goal

abbrev pub invariant-loop-place : goal.invariant-loop-place
invariant-loop-place l = record {
  names : l.seen.keys ≡ scopes l.paths l.level (take l.place-index l.places);
  scopes : l.found.items ≡ grouped l.paths l.level (take l.place-index l.places);
}
