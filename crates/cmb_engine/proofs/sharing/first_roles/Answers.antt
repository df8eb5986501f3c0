use Rattle.std.proofs.Common.{◌≡◌, ℕ, false, List, sym, subst, ◌∙◌}
use Rattle.std.proofs.lemmas.List.{take_all}
use Rattle.cmb_engine.specs.Inner.Roles.{gives}
use Rattle.cmb_engine.specs.declared.role.Role.{Role}
use Rattle.cmb_engine.proofs.RoleFacts.{gives-push, roles-push}
use Rattle.cmb_engine.proofs.sharing.first_roles.Goals as goal

pub loop-one-preserved : goal.loop-one-preserved
loop-one-preserved c = record {
  driven = roles-push c.loop-one.roles.items _ c.first_role.result c.args.driven.now c.loop-one.one-index false c.loop-one-test.true c.in_ok-push.ensures.items c.first_role.ensures.driven
      c.loop-one.invariant.driven;
  none = subst (λ (roles : List Role). (net : ℕ) → gives roles net ≡ false) (sym c.in_ok-push.ensures.items)
      (gives-push c.loop-one.roles.items c.first_role.result c.loop-one.invariant.none c.first_role.ensures.none);
}

pub returns-clause-driven : goal.returns-clause-driven
returns-clause-driven c = c.loop-one.invariant.driven ∙ take_all c.loop-one.one-index c.args.driven.now c.loop-one-test.false
