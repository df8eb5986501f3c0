use Rattle.std.proofs.Common.{map, get_or, ap, ◌∙◌}
use Rattle.std.proofs.lemmas.List.{take_all}
use Rattle.cmb_netlist.specs.Netlist.{driver_of}
use Rattle.cmb_cone.specs.Restriction.{with_nets}
use Rattle.cmb_cone.proofs.PartFacts.{map_step, pins_known}
use Rattle.cmb_cone.proofs.part.drivers_of.Goals as goal

pub driver-requires : goal.driver-requires
driver-requires c = c.requires.closed.within c.loop-net.net-index 0 c.loop-net-test.true

pub renumbered-requires : goal.renumbered-requires
renumbered-requires c = pins_known c.args.netlist.now c.args.kept.now.nets.now c.args.kept.now.places.now c.loop-net.net-index c.driver.result.now c.requires.closed c.requires.long c.loop-net-test.true c.driver.ensures

pub loop-net-preserved : goal.loop-net-preserved
loop-net-preserved c =
    map_step (λ net. with_nets (λ n. get_or c.args.kept.now.places.now n 0) (driver_of c.args.netlist.now net)) c.args.kept.now.nets.now c.loop-net.net-index c.loop-net.drivers.items _ c.in_ok-driver.driver
    c.loop-net-test.true c.loop-net.invariant (c.in_ok-driver.ensures ∙ ap (with_nets (λ n. get_or c.args.kept.now.places.now n 0)) c.driver.ensures) c.in_ok-push.ensures.items

pub returns : goal.returns
returns c =
    c.loop-net.invariant
    ∙ ap (map (λ net. with_nets (λ n. get_or c.args.kept.now.places.now n 0) (driver_of c.args.netlist.now net))) (take_all c.loop-net.net-index c.args.kept.now.nets.now c.loop-net-test.false)
