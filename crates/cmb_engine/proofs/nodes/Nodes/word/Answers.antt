use Rattle.std.proofs.Common.{◌≡◌, ◌+◌, ◌-◌, ◌<◌, ◌≤◌, List, [], ◌∷◌, drop, length, map, sym, ap, subst, take, ◌∙◌, arith}
use Rattle.std.specs.List.{All}
use Rattle.cmb_design_model.specs.Gate.{gate}
use Rattle.cmb_words.specs.Word.{level_at_place}
use Rattle.cmb_engine.specs.Inner.Planes.{planes_of}
use Rattle.cmb_engine.specs.Inner.Cells.{Cell, Gate, IsLawful, cell_at, cell_level, seen}
use Rattle.cmb_engine.specs.Inner.Nodes.{pins_in}
use Rattle.cmb_engine.specs.Inner.Tables.{pins_at}
use Rattle.cmb_engine.specs.Inner.Words.{levels_of}
use Rattle.cmb_engine.specs.declared.cell.Pin.{Pin}
use Rattle.cmb_engine.specs.declared.nodes.NodeRule.TheVariants as rule
use Rattle.cmb_engine.proofs.NodeFacts.{flop-lawful, flop-read, gate-lawful, double-within, both-seen, double-lawful, double-read, node-read, single-read}
use Rattle.cmb_engine.proofs.WordFacts.{levels_of-read}
use Rattle.cmb_engine.proofs.nodes.Nodes.word.Goals as goal

pub returns-in-Told-clause-below : goal.returns-in-Told-clause-below
returns-in-Told-clause-below c = λ place below.
    sym (levels_of-read c.args.words.now c.args.slot c.get-own.result place c.requires.slot (c.get-own.ensures (planes_of c.get-own.result)))

pub returns-in-Told-clause-told : goal.returns-in-Told-clause-told
returns-in-Told-clause-told c = λ told place.
    sym (levels_of-read c.args.words.now c.args.slot c.get-own.result place c.requires.slot (c.get-own.ensures (planes_of c.get-own.result)))

pub returns-in-Single-clause-below : goal.returns-in-Single-clause-below
returns-in-Single-clause-below c = λ place below.
    c.spliced.ensures.below place below ∙ sym (levels_of-read c.args.words.now c.args.slot c.get-own.result place c.requires.slot (c.get-own.ensures (planes_of c.get-own.result)))

pub returns-in-Double-clause-below : goal.returns-in-Double-clause-below
returns-in-Double-clause-below c = λ place below.
    c.spliced-in-Double.ensures.below place below ∙ sym (levels_of-read c.args.words.now c.args.slot c.get-own.result place c.requires.slot (c.get-own.ensures (planes_of c.get-own.result)))

pub returns-in-Gate-clause-below : goal.returns-in-Gate-clause-below
returns-in-Gate-clause-below c = λ place below.
    c.spliced-in-Gate.ensures.below place below ∙ sym (levels_of-read c.args.words.now c.args.slot c.get-own.result place c.requires.slot (c.get-own.ensures (planes_of c.get-own.result)))

pub returns-in-Flop-clause-below : goal.returns-in-Flop-clause-below
returns-in-Flop-clause-below c = λ place below.
    c.flop_word.ensures.below place below ∙ sym (levels_of-read c.args.words.now c.args.slot c.get-own.result place c.requires.slot (c.get-own.ensures (planes_of c.get-own.result)))

pub returns-in-Single-clause-made : goal.returns-in-Single-clause-made
returns-in-Single-clause-made c = λ place from small.
    let inside = c.self.inside in
    let pin = c.pin_at.result in
    let cell : cell_at c.args.self.now.cells c.args.rank ≡ Gate c.in-Single.kind (pin ∷ []) =
    single-read inside.pins.items inside.samplers.items inside.nodes.items c.args.self.now c.self.view_is c.args.rank c.requires.rank c.index.result.now c.index.ensures
    c.in-Single.kind c.in-Single.delay c.in-Single.net pin c.in-Single.is c.pin_at.ensures in
    let lawful : IsLawful (length c.args.words.now) c.args.first (Gate c.in-Single.kind (pin ∷ [])) =
    subst (λ (cell : Cell). IsLawful (length c.args.words.now) c.args.first cell) cell c.requires.cell in
    c.spliced.ensures.from place from small
    ∙ c.single_word.ensures place (omega (arith, lawful.2 0 pin (omega arith), from)) small
    ∙ ap (λ (cell : Cell). cell_level (levels_of c.args.words.now) (level_at_place c.spliced.result) c.args.to cell place) (sym cell)

pub returns-in-Double-clause-made : goal.returns-in-Double-clause-made
returns-in-Double-clause-made c = λ place from small.
    let inside = c.self.inside in
    let pin = c.pin_at-in-Double.result in
    let second = c.pin_at-in-Double-2.result in
    let cell : cell_at c.args.self.now.cells c.args.rank ≡ Gate c.in-Double.kind (pins_in c.in-Double.kind pin second) =
    double-read inside.pins.items inside.samplers.items inside.nodes.items c.args.self.now c.self.view_is c.args.rank c.requires.rank c.index.result.now c.index.ensures
    c.in-Double.kind c.in-Double.delay c.in-Double.later c.in-Double.net c.in-Double.other pin second c.in-Double.is c.pin_at-in-Double.ensures c.pin_at-in-Double-2.ensures in
    let lawful : IsLawful (length c.args.words.now) c.args.first (Gate c.in-Double.kind (pin ∷ second ∷ [])) =
    double-lawful inside.pins.items inside.samplers.items inside.nodes.items c.args.self.now c.self.view_is c.args.rank c.requires.rank c.index.result.now c.index.ensures c.self.invariant
    (length c.args.words.now) c.args.first c.in-Double.kind c.in-Double.delay c.in-Double.later c.in-Double.net c.in-Double.other pin second c.in-Double.is c.pin_at-in-Double.ensures
    c.pin_at-in-Double-2.ensures c.requires.cell in
    c.spliced-in-Double.ensures.from place from small
    ∙ c.double_word-made.ensures place (omega (arith, lawful.2 0 pin (omega arith), from)) (omega (arith, lawful.2 1 pin (omega arith), from)) small
    ∙ both-seen c.in-Double.kind (seen (levels_of c.args.words.now) place) pin second
    ∙ ap (λ (cell : Cell). cell_level (levels_of c.args.words.now) (level_at_place c.spliced-in-Double.result) c.args.to cell place) (sym cell)

pub returns-in-Gate-clause-made : goal.returns-in-Gate-clause-made
returns-in-Gate-clause-made c = λ place from small.
    let inside = c.self.inside in
    let kind = c.in-Gate.kind in
    let part = c.in-Gate.part in
    let listed = c.deref.result.now in
    let count : part.first + part.count - part.first ≡ part.count = omega arith in
    let here : take (part.first + part.count - part.first) (drop part.first listed) ≡ pins_at inside.pins.items part =
    ap (λ n. take n (drop part.first listed)) count ∙ ap (λ (ps : List Pin). pins_at ps part) c.deref.ensures.value in
    let cell : cell_at c.args.self.now.cells c.args.rank ≡ Gate kind (pins_at inside.pins.items part) =
    node-read inside.pins.items inside.samplers.items inside.nodes.items c.args.self.now c.self.view_is c.args.rank c.requires.rank c.index.result.now c.index.ensures
    (rule.Gate kind part) c.in-Gate.is in
    c.spliced-in-Gate.ensures.from place from small
    ∙ c.gate_word.ensures place from small
    ∙ ap (λ (ps : List Pin). gate kind (map (seen (levels_of c.args.words.now) place) ps)) here
    ∙ ap (λ (cell : Cell). cell_level (levels_of c.args.words.now) (level_at_place c.spliced-in-Gate.result) c.args.to cell place) (sym cell)

pub double_word-made-requires-clause-net : goal.double_word-made-requires-clause-net
double_word-made-requires-clause-net c =
    let inside = c.self.inside in
    (double-within inside.pins.items inside.samplers.items inside.nodes.items c.args.self.now c.self.view_is c.args.rank c.requires.rank c.index.result.now c.index.ensures c.self.invariant
    (length c.args.words.now) c.args.first c.in-Double.kind c.in-Double.delay c.in-Double.later c.in-Double.net c.in-Double.other c.pin_at-in-Double.result c.pin_at-in-Double-2.result c.in-Double.is c.pin_at-in-Double.ensures
    c.pin_at-in-Double-2.ensures c.requires.cell c.requires.window.1).0

pub double_word-made-requires-clause-delay : goal.double_word-made-requires-clause-delay
double_word-made-requires-clause-delay c =
    let inside = c.self.inside in
    (double-within inside.pins.items inside.samplers.items inside.nodes.items c.args.self.now c.self.view_is c.args.rank c.requires.rank c.index.result.now c.index.ensures c.self.invariant
    (length c.args.words.now) c.args.first c.in-Double.kind c.in-Double.delay c.in-Double.later c.in-Double.net c.in-Double.other c.pin_at-in-Double.result c.pin_at-in-Double-2.result c.in-Double.is c.pin_at-in-Double.ensures
    c.pin_at-in-Double-2.ensures c.requires.cell c.requires.window.1).1

pub double_word-made-requires-clause-other_net : goal.double_word-made-requires-clause-other_net
double_word-made-requires-clause-other_net c =
    let inside = c.self.inside in
    (double-within inside.pins.items inside.samplers.items inside.nodes.items c.args.self.now c.self.view_is c.args.rank c.requires.rank c.index.result.now c.index.ensures c.self.invariant
    (length c.args.words.now) c.args.first c.in-Double.kind c.in-Double.delay c.in-Double.later c.in-Double.net c.in-Double.other c.pin_at-in-Double.result c.pin_at-in-Double-2.result c.in-Double.is c.pin_at-in-Double.ensures
    c.pin_at-in-Double-2.ensures c.requires.cell c.requires.window.1).2

pub double_word-made-requires-clause-other_delay : goal.double_word-made-requires-clause-other_delay
double_word-made-requires-clause-other_delay c =
    let inside = c.self.inside in
    (double-within inside.pins.items inside.samplers.items inside.nodes.items c.args.self.now c.self.view_is c.args.rank c.requires.rank c.index.result.now c.index.ensures c.self.invariant
    (length c.args.words.now) c.args.first c.in-Double.kind c.in-Double.delay c.in-Double.later c.in-Double.net c.in-Double.other c.pin_at-in-Double.result c.pin_at-in-Double-2.result c.in-Double.is c.pin_at-in-Double.ensures
    c.pin_at-in-Double-2.ensures c.requires.cell c.requires.window.1).3

pub gate_word-requires-clause-nets : goal.gate_word-requires-clause-nets
gate_word-requires-clause-nets c =
    let inside = c.self.inside in
    let part = c.in-Gate.part in
    let listed = c.deref.result.now in
    let count : part.first + part.count - part.first ≡ part.count = omega arith in
    let here : take (part.first + part.count - part.first) (drop part.first listed) ≡ pins_at inside.pins.items part =
    ap (λ n. take n (drop part.first listed)) count ∙ ap (λ (ps : List Pin). pins_at ps part) c.deref.ensures.value in
    let lawful : IsLawful (length c.args.words.now) c.args.first (Gate c.in-Gate.kind (pins_at inside.pins.items part)) =
    gate-lawful inside.pins.items inside.samplers.items inside.nodes.items c.args.self.now c.self.view_is c.args.rank c.requires.rank c.index.result.now c.index.ensures
    (length c.args.words.now) c.args.first c.in-Gate.kind part c.in-Gate.is c.requires.cell in
    subst (All (λ (p : Pin). p.net < length c.args.words.now)) (sym here) lawful.1

pub gate_word-requires-clause-within : goal.gate_word-requires-clause-within
gate_word-requires-clause-within c =
    let inside = c.self.inside in
    let part = c.in-Gate.part in
    let listed = c.deref.result.now in
    let count : part.first + part.count - part.first ≡ part.count = omega arith in
    let here : take (part.first + part.count - part.first) (drop part.first listed) ≡ pins_at inside.pins.items part =
    ap (λ n. take n (drop part.first listed)) count ∙ ap (λ (ps : List Pin). pins_at ps part) c.deref.ensures.value in
    let lawful : IsLawful (length c.args.words.now) c.args.first (Gate c.in-Gate.kind (pins_at inside.pins.items part)) =
    gate-lawful inside.pins.items inside.samplers.items inside.nodes.items c.args.self.now c.self.view_is c.args.rank c.requires.rank c.index.result.now c.index.ensures
    (length c.args.words.now) c.args.first c.in-Gate.kind part c.in-Gate.is c.requires.cell in
    subst (All (λ (p : Pin). p.delay ≤ c.args.first)) (sym here) lawful.2

pub returns-in-Flop-clause-made : goal.returns-in-Flop-clause-made
returns-in-Flop-clause-made c = λ place from small.
    let inside = c.self.inside in
    c.flop_word.ensures.from place from small
    ∙ ap (λ (cell : Cell). cell_level (levels_of c.args.words.now) (level_at_place c.flop_word.result) c.args.to cell place)
    (sym (flop-read inside.pins.items inside.samplers.items inside.nodes.items c.args.self.now c.self.view_is c.args.rank c.requires.rank c.index.result.now c.index.ensures c.self.invariant
    c.in-Flop.number c.index-in-Flop.result.now c.in-Flop.is c.index-in-Flop.ensures))

pub flop_word-requires-clause-clock : goal.flop_word-requires-clause-clock
flop_word-requires-clause-clock c =
    let inside = c.self.inside in
    (flop-lawful inside.pins.items inside.samplers.items inside.nodes.items c.args.self.now c.self.view_is c.args.rank c.requires.rank c.index.result.now c.index.ensures c.self.invariant
    (length c.args.words.now) c.args.first c.in-Flop.number c.index-in-Flop.result.now c.in-Flop.is c.index-in-Flop.ensures c.requires.cell).0

pub flop_word-requires-clause-net : goal.flop_word-requires-clause-net
flop_word-requires-clause-net c =
    let inside = c.self.inside in
    (flop-lawful inside.pins.items inside.samplers.items inside.nodes.items c.args.self.now c.self.view_is c.args.rank c.requires.rank c.index.result.now c.index.ensures c.self.invariant
    (length c.args.words.now) c.args.first c.in-Flop.number c.index-in-Flop.result.now c.in-Flop.is c.index-in-Flop.ensures c.requires.cell).1

pub flop_word-requires-clause-delay : goal.flop_word-requires-clause-delay
flop_word-requires-clause-delay c =
    let inside = c.self.inside in
    (flop-lawful inside.pins.items inside.samplers.items inside.nodes.items c.args.self.now c.self.view_is c.args.rank c.requires.rank c.index.result.now c.index.ensures c.self.invariant
    (length c.args.words.now) c.args.first c.in-Flop.number c.index-in-Flop.result.now c.in-Flop.is c.index-in-Flop.ensures c.requires.cell).2
