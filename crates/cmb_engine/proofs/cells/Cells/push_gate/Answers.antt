use Rattle.std.proofs.Common.{◌≡◌, ◌++◌, ◌∷◌, [], List, length, ap, ◌∙◌, arith}
use Rattle.cmb_engine.specs.Inner.Cells.{Cell, Gate}
use Rattle.cmb_engine.proofs.TableFacts.{all_inside_more, gate_cells, gate_inside}
use Rattle.cmb_engine.proofs.cells.Cells.push_gate.Goals as goal

pub invariant_of-self-in_err-push : goal.invariant_of-self-in_err-push
invariant_of-self-in_err-push c =
    rw (c.in_ok-extend_from_slice.ensures.items, c.in_err-push.ensures.items)
    (all_inside_more c.self.inside.pins.items c.args.pins.now c.self.inside.rules.items c.self.invariant)

pub invariant_of-self-2 : goal.invariant_of-self-2
invariant_of-self-2 c =
    let first : c.in_ok-part.part.first ≡ length c.self.inside.pins.items = omega (arith, c.in_ok-part.ensures.0, c.len.ensures) in
    rw (c.in_ok-extend_from_slice.ensures.items, c.in_ok-push.ensures.items)
    (gate_inside c.self.inside.pins.items c.args.pins.now c.self.inside.rules.items c.args.kind c.in_ok-part.part c.self.invariant first c.in_ok-part.ensures.1)

pub returns : goal.returns
returns c =
    let first : c.in_ok-part.part.first ≡ length c.self.inside.pins.items = omega (arith, c.in_ok-part.ensures.0, c.len.ensures) in
    rw (c.in_ok-extend_from_slice.ensures.items, c.in_ok-push.ensures.items)
    (gate_cells c.self.inside.pins.items c.args.pins.now c.self.inside.rules.items c.args.kind c.in_ok-part.part c.self.invariant first c.in_ok-part.ensures.1
    ∙ ap (λ (cells : List Cell). cells ++ Gate c.args.kind c.args.pins.now ∷ []) c.self.view_is)
