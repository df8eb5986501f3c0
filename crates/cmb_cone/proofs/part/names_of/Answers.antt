use Rattle.std.proofs.Common.{map, ap, ◌∙◌}
use Rattle.std.proofs.lemmas.List.{take_all}
use Rattle.cmb_netlist.specs.Netlist.{name_of}
use Rattle.cmb_cone.proofs.PartFacts.{names_more}
use Rattle.cmb_cone.proofs.part.names_of.Goals as goal

pub name-requires : goal.name-requires
name-requires c = c.requires.closed.within c.loop-net.net-index 0 c.loop-net-test.true

pub loop-net-preserved : goal.loop-net-preserved
loop-net-preserved c =
    names_more c.args.netlist.now c.args.nets.now c.loop-net.net-index _ _ c.in_ok-name.name c.requires.sound c.requires.closed c.loop-net-test.true c.loop-net.invariant
    (c.in_ok-name.ensures ∙ c.name.ensures) c.in_ok-insert.ensures.keys

pub returns : goal.returns
returns c = c.loop-net.invariant ∙ ap (map (name_of c.args.netlist.now)) (take_all c.loop-net.net-index c.args.nets.now c.loop-net-test.false)
