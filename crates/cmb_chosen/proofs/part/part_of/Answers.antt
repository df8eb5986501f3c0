use Rattle.std.proofs.Common.{List, ℕ, arith, subst, sym}
use Rattle.std.specs.Prelude.{All, Contains}
use Rattle.cmb_netlist.specs.Netlist.{IsNetlist, Netlist}
use Rattle.cmb_cone.specs.Closed.{IsClosure}
use Rattle.cmb_chosen.proofs.PruneFacts.{part-pruned}
use Rattle.cmb_chosen.proofs.PartFacts.{part-among, part-levels, part-table, part-text, part-within}
use Rattle.cmb_chosen.proofs.part.part_of.Goals as goal

pub places_in-requires-clause-there : goal.places_in-requires-clause-there
places_in-requires-clause-there c =
    let HasAll : List ℕ → Type 0 = λ nets. All (Contains nets) c.args.chosen.now in
    subst HasAll (sym c.deref-2.ensures.value) c.in_ok-nets.ensures.has

pub returns-clause-within : goal.returns-clause-within
returns-clause-within c =
    part-within c.args.design.now c.in_ok-part.part c.in_ok-nets.nets.items c.deref-2.result.now _ (rw c.deref.ensures.value at c.in_ok-part.ensures.part) c.deref-2.ensures.value c.in-Ok.ensures.within

pub returns-clause-among : goal.returns-clause-among
returns-clause-among c given =
    part-among c.args.design.now c.in_ok-part.part c.in_ok-nets.nets.items c.deref-2.result.now _ (rw c.deref.ensures.value at c.in_ok-part.ensures.part) c.deref-2.ensures.value
    (c.in-Ok.ensures.rising given.rising) c.in-Ok.ensures.within (omega (arith, c.in-Ok.ensures.count, given.few))

pub returns-clause-levels : goal.returns-clause-levels
returns-clause-levels c =
    part-levels c.args.design.now c.in_ok-part.part c.in_ok-nets.nets.items c.args.chosen.now _ (rw c.deref.ensures.value at c.in_ok-part.ensures.values)
    (rw c.deref-2.ensures.value at c.in-Ok.ensures.within) (rw c.deref-2.ensures.value at c.in-Ok.ensures.back) c.in-Ok.ensures.count

pub returns-clause-text : goal.returns-clause-text
returns-clause-text c =
    part-text c.args.design.now c.in_ok-part.part c.in_ok-nets.nets.items c.args.chosen.now _ (rw c.deref.ensures.value at c.in_ok-part.ensures.part) (rw c.deref.ensures.value at c.in_ok-part.ensures.values)
    (rw c.deref-2.ensures.value at c.in-Ok.ensures.within) (rw c.deref-2.ensures.value at c.in-Ok.ensures.back)

pub returns-clause-activity : goal.returns-clause-activity
returns-clause-activity c =
    part-table c.args.design.now c.in_ok-part.part c.in_ok-nets.nets.items c.args.chosen.now _ (rw c.deref.ensures.value at c.in_ok-part.ensures.part) (rw c.deref.ensures.value at c.in_ok-part.ensures.values)
    (rw c.deref-2.ensures.value at c.in-Ok.ensures.within) (rw c.deref-2.ensures.value at c.in-Ok.ensures.back)

pub invariant_of-result : goal.invariant_of-result
invariant_of-result c =
    let whole = c.args.design.now.netlist in
    let nets = c.in_ok-nets.nets.items in
    let least : IsClosure whole c.args.chosen.now nets = subst (λ (netlist : Netlist). IsClosure netlist c.args.chosen.now nets) c.netlist-2.ensures c.in_ok-nets.ensures in
    let part = rw c.deref.ensures.value at c.in_ok-part.ensures.part in
    part-pruned whole c.in_ok-part.part.netlist nets least.closed part.netlist (subst IsNetlist c.netlist-netlist.ensures c.len-kept.ensures.sound) c.args.chosen.now c.in-Ok.places.items least
    (rw c.deref-2.ensures.value at c.in-Ok.ensures.back)
