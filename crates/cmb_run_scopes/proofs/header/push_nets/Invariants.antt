use Rattle.std.proofs.Common.{◌≡◌, ◌++◌, drop}
use Rattle.cmb_run_scopes.proofs.HeaderFacts.{own_lines}
use Rattle.cmb_run_scopes.proofs.header.push_nets.Given as goal

abbrev pub invariant-loop-place : goal.invariant-loop-place
invariant-loop-place l = l.out.items ++ own_lines l.paths l.level (drop l.place-index l.places) ≡ l.initial.out.items ++ own_lines l.paths l.level l.places
