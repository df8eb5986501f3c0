-- Cells kept in two lists.
use Rattle.std.proofs.Common.{◌≡◌, ℕ, zero, suc, ◌+◌, ◌<◌, List, [], ◌∷◌, ◌++◌, length, take, get_or, refl, sym, ◌∙◌, ap, arith}
use Rattle.std.proofs.lemmas.List.{length-append, length-map, length-take, take_more}
use Rattle.cmb_netlist.specs.declared.netlist.Kind.{Kind}
use Rattle.cmb_design_model.specs.Design.{Design}
use Rattle.cmb_design_model.specs.Timing.{delay}
use Rattle.cmb_engine.specs.Inner.Plans.{pins_from}
use Rattle.cmb_engine.specs.Inner.Cells.{Cell, Told, Gate}
use Rattle.cmb_engine.specs.Inner.Tables.{cell_of, cells_of, pins_at, IsInside, AreInside}
use Rattle.cmb_engine.specs.declared.cell.Pin.{Pin}
use Rattle.cmb_engine.specs.declared.cells.PinRange.{PinRange}
use Rattle.cmb_engine.specs.declared.cells.Rule.{Rule}
use Rattle.cmb_engine.specs.declared.cells.Rule.TheVariants as rule
use Rattle.cmb_engine.proofs.JoinFacts.{behind, still}

-- one more rule
pub inside_push : (pins : List Pin) (rules : List Rule) (r : Rule) → AreInside pins rules → IsInside pins r → AreInside pins (rules ++ r ∷ [])
inside_push pins [] r all one = (one, tt)
inside_push pins (s ∷ rules) r all one = (all.0, inside_push pins rules r all.1 one)

pub cells_push : (pins : List Pin) (rules : List Rule) (r : Rule) → cells_of pins (rules ++ r ∷ []) ≡ cells_of pins rules ++ cell_of pins r ∷ []
cells_push pins [] r = refl
cells_push pins (s ∷ rules) r = ap (λ cells. cell_of pins s ∷ cells) (cells_push pins rules r)

-- ---- more pins

pub pins_at-behind : (xs ys : List Pin) (part : PinRange) → part.first ≡ length xs → part.count ≡ length ys → pins_at (xs ++ ys) part ≡ ys
pins_at-behind xs ys part first count = rw (first, count) (behind xs ys)

inside_more : (xs ys : List Pin) (r : Rule) → IsInside xs r → IsInside (xs ++ ys) r
inside_more xs ys rule.Told h = tt
inside_more xs ys (rule.Gate kind part) h = omega (arith, h, length-append xs ys)
inside_more xs ys (rule.Flop clock pin) h = tt

pub all_inside_more : (xs ys : List Pin) (rules : List Rule) → AreInside xs rules → AreInside (xs ++ ys) rules
all_inside_more xs ys [] h = tt
all_inside_more xs ys (r ∷ rules) h = (inside_more xs ys r h.0, all_inside_more xs ys rules h.1)

cell_more : (xs ys : List Pin) (r : Rule) → IsInside xs r → cell_of (xs ++ ys) r ≡ cell_of xs r
cell_more xs ys rule.Told h = refl
cell_more xs ys (rule.Gate kind part) h = ap (Gate kind) (still xs ys part.first part.count h)
cell_more xs ys (rule.Flop clock pin) h = refl

pub cells_more : (xs ys : List Pin) (rules : List Rule) → AreInside xs rules → cells_of (xs ++ ys) rules ≡ cells_of xs rules
cells_more xs ys [] h = refl
cells_more xs ys (r ∷ rules) h = rw (cell_more xs ys r h.0, cells_more xs ys rules h.1) refl

-- ---- one more rule, which has its pins in itself

pub own_inside : (pins : List Pin) (rules : List Rule) (r : Rule) → AreInside pins rules → IsInside [] r → AreInside pins (rules ++ r ∷ [])
own_inside pins rules r all own = inside_push pins rules r all (inside_more [] pins r own)

pub own_cells : (pins : List Pin) (rules : List Rule) (r : Rule) → IsInside [] r → cells_of pins (rules ++ r ∷ []) ≡ cells_of pins rules ++ cell_of [] r ∷ []
own_cells pins rules r own = cells_push pins rules r ∙ ap (λ cell. cells_of pins rules ++ cell ∷ []) (cell_more [] pins r own)

-- ---- reading

pub inside-get_or : (pins : List Pin) (rules : List Rule) (net : ℕ) (d : Rule) → AreInside pins rules → net < length rules → IsInside pins (get_or rules net d)
inside-get_or pins [] net d h b = absurd (omega arith)
inside-get_or pins (r ∷ rules) zero d h b = h.0
inside-get_or pins (r ∷ rules) (suc net) d h b = inside-get_or pins rules net d h.1 (omega arith)

pub cells_of-get_or : (pins : List Pin) (rules : List Rule) (net : ℕ) (d : Rule) → net < length rules → get_or (cells_of pins rules) net Told ≡ cell_of pins (get_or rules net d)
cells_of-get_or pins [] net d b = absurd (omega arith)
cells_of-get_or pins (r ∷ rules) zero d b = refl
cells_of-get_or pins (r ∷ rules) (suc net) d b = cells_of-get_or pins rules net d (omega arith)

-- the cell of a rule that was read
pub read-cell : (pins : List Pin) (rules : List Rule) (cells : List Cell) (net : ℕ) (r : Rule) → cells_of pins rules ≡ cells → net < length cells → r ≡ get_or rules net r
    → get_or cells net Told ≡ cell_of pins r
read-cell pins rules cells net r is inside read =
    ap (λ (cells : List Cell). get_or cells net Told) (sym is)
    ∙ cells_of-get_or pins rules net r (omega (arith, inside, ap length is, length-map rules (cell_of pins)))
    ∙ ap (cell_of pins) (sym read)

-- one more gate, whose pins are behind the others
pub gate_cells : (xs ys : List Pin) (rules : List Rule) (kind : Kind) (part : PinRange) → AreInside xs rules → part.first ≡ length xs → part.count ≡ length ys
    → cells_of (xs ++ ys) (rules ++ rule.Gate kind part ∷ []) ≡ cells_of xs rules ++ Gate kind ys ∷ []
gate_cells xs ys rules kind part all first count =
    cells_push (xs ++ ys) rules (rule.Gate kind part)
    ∙ ap (λ cells. cells ++ Gate kind (pins_at (xs ++ ys) part) ∷ []) (cells_more xs ys rules all)
    ∙ ap (λ pins. cells_of xs rules ++ Gate kind pins ∷ []) (pins_at-behind xs ys part first count)

pub gate_inside : (xs ys : List Pin) (rules : List Rule) (kind : Kind) (part : PinRange) → AreInside xs rules → part.first ≡ length xs → part.count ≡ length ys
    → AreInside (xs ++ ys) (rules ++ rule.Gate kind part ∷ [])
gate_inside xs ys rules kind part all first count =
    inside_push (xs ++ ys) rules (rule.Gate kind part) (all_inside_more xs ys rules all) (omega (arith, first, count, length-append xs ys))

-- ---- the cells of a design

pins_from-append : (design : Design) (net pin : ℕ) (operands : List ℕ) (operand : ℕ)
    → pins_from design net pin (operands ++ operand ∷ []) ≡ pins_from design net pin operands ++ record { net = operand; delay = delay design net (pin + length operands) } ∷ []
pins_from-append design net pin [] operand = let e : pin + 0 ≡ pin = omega arith in rw e refl
pins_from-append design net pin (x ∷ xs) operand =
    let e : pin + suc (length xs) ≡ suc pin + length xs = omega arith in
    rw e (ap (λ pins. record { net = x; delay = delay design net pin } ∷ pins) (pins_from-append design net (suc pin) xs operand))

pub pins_from-more : (design : Design) (net : ℕ) (operands : List ℕ) (i d : ℕ) → i < length operands
    → pins_from design net 1 (take (i + 1) operands) ≡ pins_from design net 1 (take i operands) ++ record { net = get_or operands i d; delay = delay design net (i + 1) } ∷ []
pins_from-more design net operands i d h =
    let n : length (take i operands) ≡ i = simp length-take (omega arith) in
    let pin : 1 + length (take i operands) ≡ i + 1 = omega arith in
    ap (pins_from design net 1) (take_more operands i d h) ∙ pins_from-append design net 1 (take i operands) (get_or operands i d) ∙ rw pin refl
