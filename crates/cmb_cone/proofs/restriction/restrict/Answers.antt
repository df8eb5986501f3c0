use Rattle.std.proofs.Common.{◌+◌, arith, sym, subst}
use Rattle.cmb_design_model.specs.Design.{Design}
use Rattle.cmb_cone.specs.Restriction.{IsRestriction}
use Rattle.cmb_cone.proofs.RestrictFacts.{restriction-is, only_memory}
use Rattle.cmb_cone.proofs.ValueFacts.{value-restricted}
use Rattle.cmb_cone.proofs.restriction.restrict.Goals as goal

pub out_of_memory-requires : goal.out_of_memory-requires
out_of_memory-requires c =
    only_memory c.args.design.now c.in_ok-netlist.netlist c.args.nets.now c.in-Err.reason c.horizon.ensures.lawful c.requires (rw c.netlist.ensures at c.in_ok-netlist.ensures.part) c.in_ok-netlist.ensures.sound c.in-Err.ensures

pub returns-in-Ok-clause-part : goal.returns-in-Ok-clause-part
returns-in-Ok-clause-part c =
    let Is : Design → Type 0 = λ d. IsRestriction c.args.design.now c.args.nets.now d in
    subst Is (sym c.in-Ok.ensures.1)
    (restriction-is c.args.design.now c.in_ok-netlist.netlist c.args.nets.now c.horizon.ensures.lawful c.requires (rw c.netlist.ensures at c.in_ok-netlist.ensures.part) c.in_ok-netlist.ensures.sound)

pub returns-in-Ok-clause-values : goal.returns-in-Ok-clause-values
returns-in-Ok-clause-values c i tick within =
    let Is : Design → Type 0 = λ d. IsRestriction c.args.design.now c.args.nets.now d in
    let is = subst Is (sym c.in-Ok.ensures.1)
    (restriction-is c.args.design.now c.in_ok-netlist.netlist c.args.nets.now c.horizon.ensures.lawful c.requires (rw c.netlist.ensures at c.in_ok-netlist.ensures.part) c.in_ok-netlist.ensures.sound) in
    value-restricted c.args.design.now c.in-Ok.part c.args.nets.now is (rw c.in-Ok.ensures.1 c.in_ok-netlist.ensures.sound) (tick + 1) tick (omega arith) i within
