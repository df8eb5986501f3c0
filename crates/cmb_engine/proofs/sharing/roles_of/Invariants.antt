use Rattle.cmb_engine.proofs.RoleFacts.{AreSoFar}
use Rattle.cmb_engine.proofs.sharing.roles_of.Given as goal

abbrev pub invariant-loop-net : goal.invariant-loop-net
invariant-loop-net l = record {
  roles : AreSoFar l.design l.driven l.net l.roles.items;
}
