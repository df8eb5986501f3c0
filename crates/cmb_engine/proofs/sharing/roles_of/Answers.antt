use Rattle.std.proofs.Common.{◌≡◌, ◌+◌, ℕ, Bool, List, length, sym, subst, ap, ◌∙◌, arith}
use Rattle.std.proofs.lemmas.List.{with_items_is}
use Rattle.cmb_netlist.specs.Netlist.{IsNetlist, Netlist, driver_of, pins_of}
use Rattle.cmb_design_model.specs.Design.{Design}
use Rattle.cmb_engine.specs.Inner.Roles.{Gives}
use Rattle.cmb_engine.specs.declared.role.Role.{Role}
use Rattle.cmb_engine.proofs.RoleFacts.{AreSoFar, gives-length, roles-all, roles-more, roles-passed}
use Rattle.cmb_engine.proofs.sharing.roles_of.Goals as goal
use Rattle.cmb_engine.proofs.sharing.roles_of.Goals.{then-driven-net, else-driven-net}

pub loop-net-preserved : goal.loop-net-preserved
loop-net-preserved c =
    let design : Design = c.args.design.now in
    let driven : List Bool = c.args.driven.now in
    let net : ℕ = c.loop-net.net in
    elim c.if-driven-net.branch [
      | then-driven-net w ↦
          let gave : Gives c.loop-net.roles.items w.give_pins.new.roles (pins_of (driver_of design.netlist net)) =
          subst (λ (old : List Role). Gives old w.give_pins.new.roles (pins_of (driver_of design.netlist net))) w.deref_mut.ensures.value w.give_pins.ensures in
          let len : length w.give_pins.new.roles ≡ c.loop-net.roles.len = omega (arith, gives-length c.loop-net.roles.items w.give_pins.new.roles _ gave, c.loop-net.roles.ok) in
          record {
            roles = subst (λ (roles : List Role). AreSoFar design driven (net + 1) roles)
                (sym (ap (λ v. v.items) w.roles-is ∙ with_items_is c.loop-net.roles w.give_pins.new.roles len))
                (roles-more design driven c.loop-net.roles.items w.give_pins.new.roles net w.if-driven-net.true gave c.loop-net.invariant.roles);
          }
      | else-driven-net w ↦ record {
        roles = subst (λ (roles : List Role). AreSoFar design driven (net + 1) roles) (sym (ap (λ v. v.items) w.roles-is))
            (roles-passed design driven c.loop-net.roles.items net w.if-driven-net.false c.loop-net.invariant.roles);
      }
    ]

pub returns : goal.returns
returns c =
    roles-all c.args.design.now c.args.driven.now c.loop-net.roles.items c.loop-net.net
    (subst IsNetlist c.netlist.ensures c.len-net-end.ensures.sound)
    (omega (arith, ap (λ (netlist : Netlist). length netlist.names) c.netlist.ensures, c.loop-net-test.false, c.len-net-end.ensures.value)) c.requires c.loop-net.invariant.roles
