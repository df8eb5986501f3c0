use Rattle.std.proofs.Common.{length}
use Rattle.cmb_engine.proofs.NodeFacts.{double-within, double-lawful, double-made, double-read}
use Rattle.cmb_engine.proofs.nodes.Nodes.known_word.Goals as goal

pub returns-in-Double-clause-made : goal.returns-in-Double-clause-made
returns-in-Double-clause-made c =
    let inside = c.self.inside in
    let pin = c.pin_at.result in
    let second = c.pin_at-in-Double.result in
    double-made c.args.self.now.cells c.args.rank c.in-Double.kind pin second c.args.ones.now c.known_double-made.result c.spliced_ones.result c.args.to c.args.first
    (double-read inside.pins.items inside.samplers.items inside.nodes.items c.args.self.now c.self.view_is c.args.rank c.requires.rank c.index.result.now c.index.ensures
    c.in-Double.kind c.in-Double.delay c.in-Double.later c.in-Double.net c.in-Double.other pin second c.in-Double.is c.pin_at.ensures c.pin_at-in-Double.ensures)
    (double-lawful inside.pins.items inside.samplers.items inside.nodes.items c.args.self.now c.self.view_is c.args.rank c.requires.rank c.index.result.now c.index.ensures c.self.invariant
    (length c.args.ones.now) c.args.first c.in-Double.kind c.in-Double.delay c.in-Double.later c.in-Double.net c.in-Double.other pin second c.in-Double.is c.pin_at.ensures c.pin_at-in-Double.ensures c.requires.cell)
    c.spliced_ones.ensures.from c.known_double-made.ensures

pub known_double-made-requires-clause-net : goal.known_double-made-requires-clause-net
known_double-made-requires-clause-net c =
    let inside = c.self.inside in
    (double-within inside.pins.items inside.samplers.items inside.nodes.items c.args.self.now c.self.view_is c.args.rank c.requires.rank c.index.result.now c.index.ensures c.self.invariant
    (length c.args.ones.now) c.args.first c.in-Double.kind c.in-Double.delay c.in-Double.later c.in-Double.net c.in-Double.other c.pin_at.result c.pin_at-in-Double.result c.in-Double.is c.pin_at.ensures
    c.pin_at-in-Double.ensures c.requires.cell c.requires.window.1).0

pub known_double-made-requires-clause-delay : goal.known_double-made-requires-clause-delay
known_double-made-requires-clause-delay c =
    let inside = c.self.inside in
    (double-within inside.pins.items inside.samplers.items inside.nodes.items c.args.self.now c.self.view_is c.args.rank c.requires.rank c.index.result.now c.index.ensures c.self.invariant
    (length c.args.ones.now) c.args.first c.in-Double.kind c.in-Double.delay c.in-Double.later c.in-Double.net c.in-Double.other c.pin_at.result c.pin_at-in-Double.result c.in-Double.is c.pin_at.ensures
    c.pin_at-in-Double.ensures c.requires.cell c.requires.window.1).1

pub known_double-made-requires-clause-other_net : goal.known_double-made-requires-clause-other_net
known_double-made-requires-clause-other_net c =
    let inside = c.self.inside in
    (double-within inside.pins.items inside.samplers.items inside.nodes.items c.args.self.now c.self.view_is c.args.rank c.requires.rank c.index.result.now c.index.ensures c.self.invariant
    (length c.args.ones.now) c.args.first c.in-Double.kind c.in-Double.delay c.in-Double.later c.in-Double.net c.in-Double.other c.pin_at.result c.pin_at-in-Double.result c.in-Double.is c.pin_at.ensures
    c.pin_at-in-Double.ensures c.requires.cell c.requires.window.1).2

pub known_double-made-requires-clause-other_delay : goal.known_double-made-requires-clause-other_delay
known_double-made-requires-clause-other_delay c =
    let inside = c.self.inside in
    (double-within inside.pins.items inside.samplers.items inside.nodes.items c.args.self.now c.self.view_is c.args.rank c.requires.rank c.index.result.now c.index.ensures c.self.invariant
    (length c.args.ones.now) c.args.first c.in-Double.kind c.in-Double.delay c.in-Double.later c.in-Double.net c.in-Double.other c.pin_at.result c.pin_at-in-Double.result c.in-Double.is c.pin_at.ensures
    c.pin_at-in-Double.ensures c.requires.cell c.requires.window.1).3
