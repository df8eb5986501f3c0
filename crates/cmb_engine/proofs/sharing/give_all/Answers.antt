use Rattle.std.proofs.Common.{ℕ, ◌<◌, List, [], ◌∷◌, length, get_or, subst, ap, ◌∙◌, arith}
use Rattle.std.proofs.lemmas.List.{get_or_default, take_all}
use Rattle.cmb_engine.specs.Inner.Roles.{Gives, is_absent, role_of}
use Rattle.cmb_engine.specs.declared.role.Role.TheVariants.{Driven}
use Rattle.cmb_engine.proofs.RoleFacts.{gives-known, gives-length, gives-more, gives-nothing, gives-written, not-absent}
use Rattle.cmb_engine.proofs.sharing.give_all.Goals as goal
use Rattle.cmb_engine.proofs.sharing.give_all.Goals.{in-Absent, in_default}

pub loop-net-init : goal.loop-net-init
loop-net-init c = record { gives = gives-nothing c.args.roles.now }

pub loop-net-preserved : goal.loop-net-preserved
loop-net-preserved c =
    let net : ℕ = get_or c.args.nets.now c.loop-net.net-index 0 in
    let small : net < length c.loop-net.roles =
    omega (
      arith,
      c.requires c.loop-net.net-index 0 c.loop-net-test.true,
      gives-length c.args.roles.now c.loop-net.roles _ c.loop-net.invariant.gives,
    ) in
    let gave : Gives c.loop-net.roles c.match-roles-net.roles (net ∷ []) =
    elim c.match-roles-net.branch [
      | in-Absent w ↦ rw w.roles-is (gives-written c.loop-net.roles net small (ap is_absent (get_or_default c.loop-net.roles net Driven _ small ∙ w.in-Absent.is)))
      | in_default w ↦ rw w.roles-is (gives-known c.loop-net.roles net (not-absent (role_of c.loop-net.roles net) w.in_default.not-Absent))
    ] in
    record {
      gives = gives-more c.args.roles.now c.loop-net.roles c.match-roles-net.roles c.args.nets.now c.loop-net.net-index 0 c.loop-net-test.true c.loop-net.invariant.gives gave;
    }

pub returns : goal.returns
returns c =
    subst (λ (nets : List ℕ). Gives c.args.roles.now c.loop-net.roles nets) (take_all c.loop-net.net-index c.args.nets.now c.loop-net-test.false) c.loop-net.invariant.gives
