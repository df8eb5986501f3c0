use Rattle.std.proofs.Common.{◌≡◌, length, ap, ◌∙◌, arith}
use Rattle.cmb_engine.specs.Inner.Cells.{Nodes, Gate, with_node}
use Rattle.cmb_engine.proofs.NodeFacts.{gate_inside, gate_nodes, pins_stay}
use Rattle.cmb_engine.proofs.nodes.Nodes.push_listed.Goals as goal

pub invariant_of-self-in_err-push : goal.invariant_of-self-in_err-push
invariant_of-self-in_err-push c =
    rw (c.in_ok-extend_from_slice.ensures.items, c.in_err-push.ensures.items)
    (pins_stay c.self.inside.pins.items c.args.pins.now c.self.inside.samplers.items c.self.inside.nodes.items c.self.invariant)

pub invariant_of-self-2 : goal.invariant_of-self-2
invariant_of-self-2 c =
    let first : c.in_ok-part.part.first ≡ length c.self.inside.pins.items = omega (arith, c.in_ok-part.ensures.0, c.len.ensures) in
    rw (c.in_ok-extend_from_slice.ensures.items, c.in_ok-push.ensures.items)
    (gate_inside c.self.inside.pins.items c.args.pins.now c.self.inside.samplers.items c.self.inside.nodes.items c.args.slot c.args.kind c.in_ok-part.part c.self.invariant first
    c.in_ok-part.ensures.1)

pub returns : goal.returns
returns c =
    let first : c.in_ok-part.part.first ≡ length c.self.inside.pins.items = omega (arith, c.in_ok-part.ensures.0, c.len.ensures) in
    rw (c.in_ok-extend_from_slice.ensures.items, c.in_ok-push.ensures.items)
    (gate_nodes c.self.inside.pins.items c.args.pins.now c.self.inside.samplers.items c.self.inside.nodes.items c.args.slot c.args.kind c.in_ok-part.part c.self.invariant first
    c.in_ok-part.ensures.1
    ∙ ap (λ (nodes : Nodes). with_node nodes c.args.slot (Gate c.args.kind c.args.pins.now)) c.self.view_is)
