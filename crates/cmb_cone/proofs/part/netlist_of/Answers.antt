use Rattle.std.proofs.Common.{sym, subst}
use Rattle.cmb_netlist.specs.Netlist.{Netlist, IsNetlist}
use Rattle.cmb_cone.specs.Restriction.{IsPart}
use Rattle.cmb_cone.proofs.PartFacts.{nets_few, part_lawful, part_of}
use Rattle.cmb_cone.proofs.part.netlist_of.Goals as goal

pub places_of-requires-clause-few : goal.places_of-requires-clause-few
places_of-requires-clause-few c = nets_few c.args.netlist.now c.args.nets.now c.requires c.len.ensures.few

pub new-requires : goal.new-requires
new-requires c =
    part_lawful c.args.netlist.now c.args.nets.now c.in_ok-places.places.items c.len.ensures.sound c.requires c.in_ok-places.ensures.1 _ c.in_ok-names.ensures
    (rw c.as_slice.ensures.value at c.in_ok-drivers.ensures) (rw c.as_slice.ensures.value at c.in_ok-outputs.ensures.kept) c.in_ok-outputs.ensures.distinct

pub returns-clause-part : goal.returns-clause-part
returns-clause-part c =
    let Is : Netlist → Type 0 = λ n. IsPart c.args.netlist.now c.args.nets.now n in
    subst Is (sym c.new.ensures)
    (part_of c.args.netlist.now c.args.nets.now c.in_ok-places.places.items c.len.ensures.sound c.requires c.in_ok-places.ensures.1 _ c.in_ok-names.ensures
    (rw c.as_slice.ensures.value at c.in_ok-drivers.ensures) (rw c.as_slice.ensures.value at c.in_ok-outputs.ensures.kept) c.in_ok-outputs.ensures.distinct)

pub returns-clause-sound : goal.returns-clause-sound
returns-clause-sound c =
    subst IsNetlist (sym c.new.ensures)
    (part_lawful c.args.netlist.now c.args.nets.now c.in_ok-places.places.items c.len.ensures.sound c.requires c.in_ok-places.ensures.1 _ c.in_ok-names.ensures
    (rw c.as_slice.ensures.value at c.in_ok-drivers.ensures) (rw c.as_slice.ensures.value at c.in_ok-outputs.ensures.kept) c.in_ok-outputs.ensures.distinct)
