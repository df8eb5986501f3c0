use Rattle.std.proofs.Common.{[], ◌∷◌, ap, ◌∙◌, arith}
use Rattle.cmb_engine.specs.Inner.Cells.{Nodes, Flop, with_node}
use Rattle.cmb_engine.proofs.NodeFacts.{flop_inside, flop_nodes, flops_stay}
use Rattle.cmb_engine.proofs.nodes.Nodes.push_flop.Goals as goal

pub invariant_of-self-in_err-push-2 : goal.invariant_of-self-in_err-push-2
invariant_of-self-in_err-push-2 c =
    rw (c.in_ok-push.ensures.items, c.in_err-push-2.ensures.items)
    (flops_stay c.self.inside.pins.items c.self.inside.samplers.items (record { clock = c.args.clock; pin = c.args.pin } ∷ []) c.self.inside.nodes.items c.self.invariant)

pub invariant_of-self-2 : goal.invariant_of-self-2
invariant_of-self-2 c =
    rw (c.in_ok-push.ensures.items, c.in_ok-push-2.ensures.items)
    (flop_inside c.self.inside.pins.items c.self.inside.samplers.items c.self.inside.nodes.items c.args.slot c.in-Ok.number (record { clock = c.args.clock; pin = c.args.pin }) c.self.invariant
    (omega (arith, c.in-Ok.ensures, c.len.ensures)))

pub returns : goal.returns
returns c =
    rw (c.in_ok-push.ensures.items, c.in_ok-push-2.ensures.items)
    (flop_nodes c.self.inside.pins.items c.self.inside.samplers.items c.self.inside.nodes.items c.args.slot c.in-Ok.number (record { clock = c.args.clock; pin = c.args.pin }) c.self.invariant
    (omega (arith, c.in-Ok.ensures, c.len.ensures))
    ∙ ap (λ (nodes : Nodes). with_node nodes c.args.slot (Flop c.args.clock c.args.pin)) c.self.view_is)
