use Rattle.std.proofs.Common.{take}
use Rattle.cmb_engine.specs.Inner.Roles.{Gives}
use Rattle.cmb_engine.proofs.sharing.give_all.Given as goal

abbrev pub invariant-loop-net : goal.invariant-loop-net
invariant-loop-net l = record {
  gives : Gives l.initial.roles l.roles (take l.net-index l.nets);
}
