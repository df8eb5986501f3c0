use Rattle.std.proofs.Common.{◌≡◌, ◌+◌, ◌-◌, ◌<◌, ◌≤◌, List, [], ◌∷◌, drop, length, map, sym, ap, subst, take, ◌∙◌, arith}
use Rattle.std.specs.List.{All}
use Rattle.cmb_design_model.specs.Gate.{gate}
use Rattle.cmb_words.specs.Bits.{level_in}
use Rattle.cmb_engine.specs.Inner.Cells.{Cell, Gate, IsLawful, cell_at, cell_level, seen}
use Rattle.cmb_engine.specs.Inner.Known.{known_levels}
use Rattle.cmb_engine.specs.Inner.Tables.{pins_at}
use Rattle.cmb_engine.specs.declared.cell.Pin.{Pin}
use Rattle.cmb_engine.specs.declared.nodes.NodeRule.TheVariants as rule
use Rattle.cmb_engine.proofs.NodeFacts.{flop-lawful, flop-read, gate-lawful, double-within, double-lawful, double-made, double-read, node-read, single-read}
use Rattle.cmb_engine.proofs.nodes.Nodes.any_known_word.Goals as goal

pub returns-in-Single-clause-made : goal.returns-in-Single-clause-made
returns-in-Single-clause-made c = λ place from small.
    let inside = c.self.inside in
    let pin = c.pin_at.result in
    let cell : cell_at c.args.self.now.cells c.args.rank ≡ Gate c.in-Single.kind (pin ∷ []) =
    single-read inside.pins.items inside.samplers.items inside.nodes.items c.args.self.now c.self.view_is c.args.rank c.requires.rank c.index.result.now c.index.ensures
    c.in-Single.kind c.in-Single.delay c.in-Single.net pin c.in-Single.is c.pin_at.ensures in
    let lawful : IsLawful (length c.args.ones.now) c.args.first (Gate c.in-Single.kind (pin ∷ [])) =
    subst (λ (cell : Cell). IsLawful (length c.args.ones.now) c.args.first cell) cell c.requires.cell in
    c.spliced_ones.ensures.from place from small
    ∙ c.known_single.ensures place (omega (arith, lawful.2 0 pin (omega arith), from)) small
    ∙ ap (λ (cell : Cell). cell_level (known_levels c.args.ones.now) (level_in c.spliced_ones.result 0) c.args.to cell place) (sym cell)

pub returns-in-Double-clause-made : goal.returns-in-Double-clause-made
returns-in-Double-clause-made c =
    let inside = c.self.inside in
    let pin = c.pin_at-in-Double.result in
    let second = c.pin_at-in-Double-2.result in
    double-made c.args.self.now.cells c.args.rank c.in-Double.kind pin second c.args.ones.now c.known_double-made.result c.spliced_ones-in-Double.result c.args.to c.args.first
    (double-read inside.pins.items inside.samplers.items inside.nodes.items c.args.self.now c.self.view_is c.args.rank c.requires.rank c.index.result.now c.index.ensures
    c.in-Double.kind c.in-Double.delay c.in-Double.later c.in-Double.net c.in-Double.other pin second c.in-Double.is c.pin_at-in-Double.ensures c.pin_at-in-Double-2.ensures)
    (double-lawful inside.pins.items inside.samplers.items inside.nodes.items c.args.self.now c.self.view_is c.args.rank c.requires.rank c.index.result.now c.index.ensures c.self.invariant
    (length c.args.ones.now) c.args.first c.in-Double.kind c.in-Double.delay c.in-Double.later c.in-Double.net c.in-Double.other pin second c.in-Double.is c.pin_at-in-Double.ensures c.pin_at-in-Double-2.ensures c.requires.cell)
    c.spliced_ones-in-Double.ensures.from c.known_double-made.ensures

pub returns-in-Gate-clause-made : goal.returns-in-Gate-clause-made
returns-in-Gate-clause-made c = λ place from small.
    let inside = c.self.inside in
    let kind = c.in-Gate.kind in
    let part = c.in-Gate.part in
    let listed = c.deref.result.now in
    let count : part.first + part.count - part.first ≡ part.count = omega arith in
    let here : take (part.first + part.count - part.first) (drop part.first listed) ≡ pins_at inside.pins.items part =
    ap (λ n. take n (drop part.first listed)) count ∙ ap (λ (ps : List Pin). pins_at ps part) c.deref.ensures.value in
    let cell : cell_at c.args.self.now.cells c.args.rank ≡ Gate kind (pins_at inside.pins.items part) =
    node-read inside.pins.items inside.samplers.items inside.nodes.items c.args.self.now c.self.view_is c.args.rank c.requires.rank c.index.result.now c.index.ensures
    (rule.Gate kind part) c.in-Gate.is in
    c.spliced_ones-in-Gate.ensures.from place from small
    ∙ c.known_gate.ensures place from small
    ∙ ap (λ (ps : List Pin). gate kind (map (seen (known_levels c.args.ones.now) place) ps)) here
    ∙ ap (λ (cell : Cell). cell_level (known_levels c.args.ones.now) (level_in c.spliced_ones-in-Gate.result 0) c.args.to cell place) (sym cell)

pub known_double-made-requires-clause-net : goal.known_double-made-requires-clause-net
known_double-made-requires-clause-net c =
    let inside = c.self.inside in
    (double-within inside.pins.items inside.samplers.items inside.nodes.items c.args.self.now c.self.view_is c.args.rank c.requires.rank c.index.result.now c.index.ensures c.self.invariant
    (length c.args.ones.now) c.args.first c.in-Double.kind c.in-Double.delay c.in-Double.later c.in-Double.net c.in-Double.other c.pin_at-in-Double.result c.pin_at-in-Double-2.result c.in-Double.is c.pin_at-in-Double.ensures
    c.pin_at-in-Double-2.ensures c.requires.cell c.requires.window.1).0

pub known_double-made-requires-clause-delay : goal.known_double-made-requires-clause-delay
known_double-made-requires-clause-delay c =
    let inside = c.self.inside in
    (double-within inside.pins.items inside.samplers.items inside.nodes.items c.args.self.now c.self.view_is c.args.rank c.requires.rank c.index.result.now c.index.ensures c.self.invariant
    (length c.args.ones.now) c.args.first c.in-Double.kind c.in-Double.delay c.in-Double.later c.in-Double.net c.in-Double.other c.pin_at-in-Double.result c.pin_at-in-Double-2.result c.in-Double.is c.pin_at-in-Double.ensures
    c.pin_at-in-Double-2.ensures c.requires.cell c.requires.window.1).1

pub known_double-made-requires-clause-other_net : goal.known_double-made-requires-clause-other_net
known_double-made-requires-clause-other_net c =
    let inside = c.self.inside in
    (double-within inside.pins.items inside.samplers.items inside.nodes.items c.args.self.now c.self.view_is c.args.rank c.requires.rank c.index.result.now c.index.ensures c.self.invariant
    (length c.args.ones.now) c.args.first c.in-Double.kind c.in-Double.delay c.in-Double.later c.in-Double.net c.in-Double.other c.pin_at-in-Double.result c.pin_at-in-Double-2.result c.in-Double.is c.pin_at-in-Double.ensures
    c.pin_at-in-Double-2.ensures c.requires.cell c.requires.window.1).2

pub known_double-made-requires-clause-other_delay : goal.known_double-made-requires-clause-other_delay
known_double-made-requires-clause-other_delay c =
    let inside = c.self.inside in
    (double-within inside.pins.items inside.samplers.items inside.nodes.items c.args.self.now c.self.view_is c.args.rank c.requires.rank c.index.result.now c.index.ensures c.self.invariant
    (length c.args.ones.now) c.args.first c.in-Double.kind c.in-Double.delay c.in-Double.later c.in-Double.net c.in-Double.other c.pin_at-in-Double.result c.pin_at-in-Double-2.result c.in-Double.is c.pin_at-in-Double.ensures
    c.pin_at-in-Double-2.ensures c.requires.cell c.requires.window.1).3

pub known_gate-requires-clause-nets : goal.known_gate-requires-clause-nets
known_gate-requires-clause-nets c =
    let inside = c.self.inside in
    let part = c.in-Gate.part in
    let listed = c.deref.result.now in
    let count : part.first + part.count - part.first ≡ part.count = omega arith in
    let here : take (part.first + part.count - part.first) (drop part.first listed) ≡ pins_at inside.pins.items part =
    ap (λ n. take n (drop part.first listed)) count ∙ ap (λ (ps : List Pin). pins_at ps part) c.deref.ensures.value in
    let lawful : IsLawful (length c.args.ones.now) c.args.first (Gate c.in-Gate.kind (pins_at inside.pins.items part)) =
    gate-lawful inside.pins.items inside.samplers.items inside.nodes.items c.args.self.now c.self.view_is c.args.rank c.requires.rank c.index.result.now c.index.ensures
    (length c.args.ones.now) c.args.first c.in-Gate.kind part c.in-Gate.is c.requires.cell in
    subst (All (λ (p : Pin). p.net < length c.args.ones.now)) (sym here) lawful.1

pub known_gate-requires-clause-within : goal.known_gate-requires-clause-within
known_gate-requires-clause-within c =
    let inside = c.self.inside in
    let part = c.in-Gate.part in
    let listed = c.deref.result.now in
    let count : part.first + part.count - part.first ≡ part.count = omega arith in
    let here : take (part.first + part.count - part.first) (drop part.first listed) ≡ pins_at inside.pins.items part =
    ap (λ n. take n (drop part.first listed)) count ∙ ap (λ (ps : List Pin). pins_at ps part) c.deref.ensures.value in
    let lawful : IsLawful (length c.args.ones.now) c.args.first (Gate c.in-Gate.kind (pins_at inside.pins.items part)) =
    gate-lawful inside.pins.items inside.samplers.items inside.nodes.items c.args.self.now c.self.view_is c.args.rank c.requires.rank c.index.result.now c.index.ensures
    (length c.args.ones.now) c.args.first c.in-Gate.kind part c.in-Gate.is c.requires.cell in
    subst (All (λ (p : Pin). p.delay ≤ c.args.first)) (sym here) lawful.2

pub returns-in-Flop-clause-made : goal.returns-in-Flop-clause-made
returns-in-Flop-clause-made c = λ place from small.
    let inside = c.self.inside in
    c.known_flop.ensures.from place from small
    ∙ ap (λ (cell : Cell). cell_level (known_levels c.args.ones.now) (level_in c.known_flop.result 0) c.args.to cell place)
    (sym (flop-read inside.pins.items inside.samplers.items inside.nodes.items c.args.self.now c.self.view_is c.args.rank c.requires.rank c.index.result.now c.index.ensures c.self.invariant
    c.in-Flop.number c.index-in-Flop.result.now c.in-Flop.is c.index-in-Flop.ensures))

pub known_flop-requires-clause-clock : goal.known_flop-requires-clause-clock
known_flop-requires-clause-clock c =
    let inside = c.self.inside in
    (flop-lawful inside.pins.items inside.samplers.items inside.nodes.items c.args.self.now c.self.view_is c.args.rank c.requires.rank c.index.result.now c.index.ensures c.self.invariant
    (length c.args.ones.now) c.args.first c.in-Flop.number c.index-in-Flop.result.now c.in-Flop.is c.index-in-Flop.ensures c.requires.cell).0

pub known_flop-requires-clause-net : goal.known_flop-requires-clause-net
known_flop-requires-clause-net c =
    let inside = c.self.inside in
    (flop-lawful inside.pins.items inside.samplers.items inside.nodes.items c.args.self.now c.self.view_is c.args.rank c.requires.rank c.index.result.now c.index.ensures c.self.invariant
    (length c.args.ones.now) c.args.first c.in-Flop.number c.index-in-Flop.result.now c.in-Flop.is c.index-in-Flop.ensures c.requires.cell).1

pub known_flop-requires-clause-delay : goal.known_flop-requires-clause-delay
known_flop-requires-clause-delay c =
    let inside = c.self.inside in
    (flop-lawful inside.pins.items inside.samplers.items inside.nodes.items c.args.self.now c.self.view_is c.args.rank c.requires.rank c.index.result.now c.index.ensures c.self.invariant
    (length c.args.ones.now) c.args.first c.in-Flop.number c.index-in-Flop.result.now c.in-Flop.is c.index-in-Flop.ensures c.requires.cell).2
