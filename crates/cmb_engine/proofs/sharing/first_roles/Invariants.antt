use Rattle.std.proofs.Common.{◌≡◌, ℕ, false, take}
use Rattle.cmb_engine.specs.Inner.Roles.{driven_of, gives}
use Rattle.cmb_engine.proofs.sharing.first_roles.Given as goal

abbrev pub invariant-loop-one : goal.invariant-loop-one
invariant-loop-one l = record {
  driven : driven_of l.roles.items ≡ take l.one-index l.driven;
  none : (net : ℕ) → gives l.roles.items net ≡ false;
}
