use Rattle.std.proofs.Common.{◌≡◌, ◌==◌, ◌<◌, ◌+◌, ◌-◌, ℕ, List, true, false, length, map, take, drop, get_or, sym, ap, subst, ◌∙◌, arith, ⊎_elim}
use Rattle.std.specs.Prelude.{All, OnOk, Result}
use Rattle.std.proofs.lemmas.Bool.{false≢true}
use Rattle.std.proofs.lemmas.Result.{on_ok_weaker}
use Rattle.std.specs.List.{list_any}
use Rattle.cmb_engine.specs.Inner.Cells.{Cell, Told, IsListed, is_gate, pins_of, reads}
use Rattle.cmb_engine.specs.Inner.Tables.{cell_of, pins_at}
use Rattle.cmb_engine.specs.declared.cell.Pin.{Pin}
use Rattle.cmb_engine.specs.declared.cells.Rule.{Rule}
use Rattle.cmb_engine.proofs.TableFacts.{read-cell}
use Rattle.cmb_engine.proofs.cells.Cells.list_gate.Goals as goal

-- what is listed of pins is so of a gate's
gate-listed : {R E : Type 0} (result : Result R E) (lists : List (List ℕ)) (cell : Cell) (net : ℕ) (pins : List Pin) → pins_of cell ≡ pins
    → OnOk result ((place : ℕ) → list_any (λ pin. pin.net == place) pins ≡ true → IsListed lists place net)
    → OnOk result ((place : ℕ) → is_gate cell ≡ true → reads cell place ≡ true → IsListed lists place net)
gate-listed result lists cell net pins is =
    on_ok_weaker result (λ listed place gate read. listed place (subst (λ (ps : List Pin). list_any (λ pin. pin.net == place) ps ≡ true) is read))

pub returns-in-Told-clause-listed : goal.returns-in-Told-clause-listed
returns-in-Told-clause-listed c = λ place gate read.
    let pins = c.self.inside.pins.items in
    let none : is_gate (get_or c.args.self.now c.args.net Told) ≡ false =
    ap is_gate (read-cell pins c.self.inside.rules.items c.args.self.now c.args.net c.index.result.now c.self.view_is c.requires.net c.index.ensures)
    ∙ ⊎_elim (λ is. ap (λ (r : Rule). is_gate (cell_of pins r)) is) (λ is. ap (λ (r : Rule). is_gate (cell_of pins r)) is.2) c.in-Told.is in
    absurd (false≢true (sym none ∙ gate))

pub push_pins-requires : goal.push_pins-requires
push_pins-requires c =
    let pins = c.self.inside.pins.items in
    let part = c.in-Gate.part in
    let all = c.deref.result.now in
    let count : part.first + part.count - part.first ≡ part.count = omega arith in
    let here : take (part.first + part.count - part.first) (drop part.first all) ≡ pins_at pins part =
    ap (λ n. take n (drop part.first all)) count ∙ ap (λ (ps : List Pin). take part.count (drop part.first ps)) c.deref.ensures.value in
    let those : pins_of (get_or c.args.self.now c.args.net Told) ≡ pins_at pins part =
    ap pins_of (read-cell pins c.self.inside.rules.items c.args.self.now c.args.net c.index.result.now c.self.view_is c.requires.net c.index.ensures)
    ∙ ap (λ (r : Rule). pins_of (cell_of pins r)) c.in-Gate.is in
    subst (λ (ps : List Pin). All (λ pin. pin.net < length c.args.readers.now) ps) (those ∙ sym here) c.requires.pins

pub returns-in-Gate-clause-listed : goal.returns-in-Gate-clause-listed
returns-in-Gate-clause-listed c =
    let pins = c.self.inside.pins.items in
    let part = c.in-Gate.part in
    let all = c.deref.result.now in
    let count : part.first + part.count - part.first ≡ part.count = omega arith in
    let here : take (part.first + part.count - part.first) (drop part.first all) ≡ pins_at pins part =
    ap (λ n. take n (drop part.first all)) count ∙ ap (λ (ps : List Pin). take part.count (drop part.first ps)) c.deref.ensures.value in
    let those : pins_of (get_or c.args.self.now c.args.net Told) ≡ pins_at pins part =
    ap pins_of (read-cell pins c.self.inside.rules.items c.args.self.now c.args.net c.index.result.now c.self.view_is c.requires.net c.index.ensures)
    ∙ ap (λ (r : Rule). pins_of (cell_of pins r)) c.in-Gate.is in
    gate-listed c.push_pins.result (map (λ list. list.items) c.push_pins.new.readers) (get_or c.args.self.now c.args.net Told) c.args.net _ (those ∙ sym here)
    c.push_pins.ensures.listed
