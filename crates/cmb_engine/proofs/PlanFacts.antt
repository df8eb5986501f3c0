-- The cells of a plan do what those of its design's nets do.
use Rattle.std.proofs.Common.{◌≡◌, ℕ, zero, suc, ◌+◌, ◌-◌, ◌%◌, ◌<◌, ◌≤◌, ◌&&◌, ◌==◌, ◌⊎◌, inl, inr, true, false, if◌then◌else◌, List, [], ◌∷◌, ◌++◌, Some, length, map, get_or, take, refl, sym, ap, ap₂, subst, ◌∙◌, arith, ltb}
use Rattle.std.specs.Prelude.{All, Contains, nat_le, replicate, slice_get}
use Rattle.std.specs.List.{AllByRecursion, AllZip}
use Rattle.std.proofs.lemmas.Bool.{cases_lt, cases_Bool, false≢true, lt-ltb, le-ltb}
use Rattle.std.proofs.lemmas.List.{length-append, length-replicate, get_or_append_left, get_or-append_right}
use Rattle.std.proofs.lemmas.Option.{slice_get_within}
use Rattle.std.proofs.lemmas.List.Elements.{All-from_recursion, Contains-get_or, recursion_from_All, AllZip-push, length_all_zip}
use Rattle.cmb_wave.specs.declared.level.Level.{Level}
use Rattle.cmb_wave.specs.declared.level.Level.TheVariants.{X}
use Rattle.cmb_netlist.specs.declared.netlist.Driver.{Driver}
use Rattle.cmb_netlist.specs.declared.netlist.Driver.TheVariants as driver
use Rattle.cmb_netlist.specs.declared.netlist.Kind.{Kind}
use Rattle.cmb_netlist.specs.declared.netlist.Kind.TheVariants.{And, Nand, Or, Nor, Xor, Xnor, Not, Buff}
use Rattle.cmb_netlist.specs.Netlist.{Netlist, driver_of, pins_of as operands_of, IsNetlist, IsWired, MayTake}
use Rattle.cmb_netlist.proofs.Wired.{driver-wired}
use Rattle.cmb_design_model.specs.declared.rows.Clock.{Clock}
use Rattle.cmb_design_model.specs.Design.{Design}
use Rattle.cmb_design_model.specs.Exact.{nets_of}
use Rattle.cmb_design_model.specs.Gate.{gate}
use Rattle.cmb_design_model.specs.Timing.{delay}
use Rattle.cmb_design_model.specs.Value.{delayed, pin_levels, value}
use Rattle.cmb_design_model.proofs.ValueFacts.{value-at_gate}
use Rattle.cmb_engine.specs.Inner.Cells.{Cell, Told, Gate, Flop, cell_at, is_made, pins_of, IsLawful}
use Rattle.cmb_engine.specs.Inner.Circuits.{MeetsCells, cell_row, seen_at}
use Rattle.cmb_engine.specs.Inner.Plans.{pins_from, cell_as, cell_by, cell_in, AreCells, AreLines, CellStandsFor, Grows, Pushes, StandsFor}
use Rattle.cmb_engine.specs.Inner.Roles.{AreRoles, drives, is_driven, lacks, level_in, role_of}
use Rattle.cmb_engine.specs.Rows.{arrives, arrives_by, flop_row, row}
use Rattle.cmb_engine.specs.Inner.Traces.{IsPlan, trace_of}
use Rattle.cmb_engine.specs.declared.cell.Pin.{Pin}
use Rattle.cmb_engine.specs.declared.role.Role.{Role}
use Rattle.cmb_engine.specs.declared.role.Role.TheVariants.{Driven, Given, Absent}
use Rattle.cmb_engine.proofs.ArrivalFacts.{arrives_parts}
use Rattle.cmb_engine.proofs.CellFacts.{all-weaker}
use Rattle.cmb_engine.proofs.RoleFacts.{driven-is, driven-known, level-present}
use Rattle.cmb_engine.proofs.RowFacts.{value-meets_row}
use Rattle.cmb_engine.proofs.TableFacts.{pins_from-more}

-- ---- more lines

pub grows-none : (lines : List Pin) (most : ℕ) → Grows lines lines most most
grows-none lines most = record { longer = omega arith; kept = λ number line h. h }

pub grows-on : (first second third : List Pin) (least middle most : ℕ) → Grows first second least middle → Grows second third middle most → Grows first third least most
grows-on first second third least middle most g h =
    record { longer = omega (arith, g.longer, h.longer); kept = λ number line e. h.kept number line (g.kept number line e) }

module _ (nets : ℕ) (old new : List Pin) (least most : ℕ) (grows : Grows old new least most) where
  pub stands-grows : (wanted pin : Pin) → StandsFor nets old least wanted pin → StandsFor nets new most wanted pin
  stands-grows wanted pin (inl h) = inl (record { same = h.same; net = h.net; some = h.some; within = omega (arith, h.within, grows.longer) })
  stands-grows wanted pin (inr h) = inr (record { number = h.number; line = grows.kept h.number wanted h.line; same = h.same })

  pub zip-grows : (wanted pins : List Pin) → AllZip (StandsFor nets old least) wanted pins → AllZip (StandsFor nets new most) wanted pins
  zip-grows [] [] h = tt
  zip-grows [] (pin ∷ pins) h = absurd h
  zip-grows (w ∷ wanted) [] h = absurd h
  zip-grows (w ∷ wanted) (pin ∷ pins) h = (stands-grows w pin h.0, zip-grows wanted pins h.1)

  pub cell-grows : (wanted cell : Cell) → CellStandsFor nets old least wanted cell → CellStandsFor nets new most wanted cell
  cell-grows Told Told h = tt
  cell-grows Told (Gate kind pins) h = absurd h
  cell-grows Told (Flop clock pin) h = absurd h
  cell-grows (Gate kind wanted) Told h = absurd h
  cell-grows (Gate kind wanted) (Gate other pins) h = (h.0, h.1, zip-grows wanted pins h.2)
  cell-grows (Gate kind wanted) (Flop clock pin) h = absurd h
  cell-grows (Flop clock wanted) Told h = absurd h
  cell-grows (Flop clock wanted) (Gate kind pins) h = absurd h
  cell-grows (Flop clock wanted) (Flop other pin) h = (h.0, h.1, h.2, stands-grows wanted pin h.3)

-- the pins of a gate, one more
pub pins-more : (design : Design) (net : ℕ) (operands : List ℕ) (i d ticks nets after : ℕ) (old new : List Pin) (least most : ℕ) (pins next : List Pin) (pin : Pin)
    → i < length operands → ticks ≡ delay design net (i + 1) → after ≡ nets → Grows old new least most
    → AllZip (StandsFor nets old least) (pins_from design net 1 (take i operands)) pins
    → StandsFor after new most (record { net = get_or operands i d; delay = ticks }) pin → next ≡ pins ++ pin ∷ []
    → AllZip (StandsFor after new most) (pins_from design net 1 (take (i + 1) operands)) next
pins-more design net operands i d ticks nets after old new least most pins next pin inside late same grows so_far stands pushed =
    let wanted : Pin = record { net = get_or operands i d; delay = ticks } in
    let more : pins_from design net 1 (take (i + 1) operands) ≡ pins_from design net 1 (take i operands) ++ wanted ∷ [] =
    pins_from-more design net operands i d inside
    ∙ ap (λ (n : ℕ). pins_from design net 1 (take i operands) ++ record { net = get_or operands i d; delay = n } ∷ []) (sym late) in
    let before : AllZip (StandsFor after new most) (pins_from design net 1 (take i operands)) pins =
    subst (λ (n : ℕ). AllZip (StandsFor n new most) (pins_from design net 1 (take i operands)) pins) (sym same) (zip-grows nets old new least most grows _ _ so_far) in
    subst (λ (xs : List Pin). AllZip (StandsFor after new most) xs next) (sym more)
    (subst (λ (ys : List Pin). AllZip (StandsFor after new most) (pins_from design net 1 (take i operands) ++ wanted ∷ []) ys) (sym pushed)
    (AllZip-push (StandsFor after new most) _ _ wanted pin before stands))

-- ---- the drivers of a lawful netlist

takes-some : (kind : Kind) (count : ℕ) → MayTake kind count → 1 ≤ count
takes-some And count h = h
takes-some Nand count h = h
takes-some Or count h = h
takes-some Nor count h = h
takes-some Xor count h = h
takes-some Xnor count h = h
takes-some Not count h = omega (arith, h)
takes-some Buff count h = omega (arith, h)

pub length-pins_from : (design : Design) (net pin : ℕ) (operands : List ℕ) → length (pins_from design net pin operands) ≡ length operands
length-pins_from design net pin [] = refl
length-pins_from design net pin (operand ∷ operands) = ap suc (length-pins_from design net (suc pin) operands)

pub wired-gate : (netlist : Netlist) (net : ℕ) (kind : Kind) (operands : List ℕ) → IsNetlist netlist → driver_of netlist net ≡ driver.Gate kind operands
    → (1 ≤ length operands) × All (λ operand. operand < length netlist.names) operands
wired-gate netlist net kind operands lawful is =
    let wired = subst (IsWired (length netlist.names)) is (driver-wired netlist lawful net) in
    (takes-some kind (length operands) wired.0, wired.1)

pub wired-flop : (netlist : Netlist) (net source : ℕ) → IsNetlist netlist → driver_of netlist net ≡ driver.Flop source → source < length netlist.names
wired-flop netlist net source lawful is = subst (IsWired (length netlist.names)) is (driver-wired netlist lawful net)

pub gate-stands : (design : Design) (net : ℕ) (kind : Kind) (operands : List ℕ) (nets : ℕ) (lines : List Pin) (most : ℕ) (pins : List Pin)
    → driver_of design.netlist net ≡ driver.Gate kind operands → 1 ≤ length operands → AllZip (StandsFor nets lines most) (pins_from design net 1 operands) pins
    → CellStandsFor nets lines most (cell_in design net) (Gate kind pins)
gate-stands design net kind operands nets lines most pins is some stand =
    let count : length (pins_from design net 1 operands) ≡ length pins = length_all_zip (StandsFor nets lines most) (pins_from design net 1 operands) pins stand in
    let gate : CellStandsFor nets lines most (cell_by design net (driver.Gate kind operands)) (Gate kind pins) = (refl, omega (arith, count, length-pins_from design net 1 operands), stand) in
    subst (λ (by : Driver). CellStandsFor nets lines most (cell_by design net by) (Gate kind pins)) (sym is) gate

-- ---- one more cell

pub cells-none : (design : Design) (roles : List Role) (lines : List Pin) (most : ℕ) → AreCells design roles 0 [] lines most
cells-none design roles lines most = record { count = refl; stand = λ net small. absurd (omega arith) }

pub cells-more : (design : Design) (roles : List Role) (net nets : ℕ) (cells next : List Cell) (old new : List Pin) (least most : ℕ) → nets ≡ nets_of design → AreCells design roles net cells old least
    → Grows old new least most → Pushes cells next nets new most (cell_as design net (role_of roles net)) → AreCells design roles (net + 1) next new most
cells-more design roles net nets cells next old new least most same so_far grows pushes = record {
  count = omega (arith, ap length pushes.pushed, length-append cells (pushes.cell ∷ []), so_far.count);
  stand = λ other small. subst (λ (cells : List Cell). CellStandsFor (nets_of design) new most (cell_as design other (role_of roles other)) (cell_at cells other)) (sym pushes.pushed) (go other small (cases_lt other net));
}
  where
    go : (other : ℕ) → other < net + 1 → (other < net) ⊎ (net ≤ other)
        → CellStandsFor (nets_of design) new most (cell_as design other (role_of roles other)) (cell_at (cells ++ pushes.cell ∷ []) other)
    go other small (inl l) =
        subst (λ (cell : Cell). CellStandsFor (nets_of design) new most (cell_as design other (role_of roles other)) cell)
        (sym (get_or_append_left cells (pushes.cell ∷ []) Told other (omega (arith, so_far.count))))
        (cell-grows (nets_of design) old new least most grows (cell_as design other (role_of roles other)) (cell_at cells other) (so_far.stand other l))
    go other small (inr l) =
        let e : net ≡ other = omega arith in
        let none : net - net ≡ 0 = omega arith in
        let last : cell_at (cells ++ pushes.cell ∷ []) net ≡ pushes.cell =
        get_or-append_right cells (pushes.cell ∷ []) net net Told so_far.count (omega arith) ∙ ap (cell_at (pushes.cell ∷ [])) none in
        let here : CellStandsFor (nets_of design) new most (cell_as design net (role_of roles net)) pushes.cell =
        subst (λ (n : ℕ). CellStandsFor n new most (cell_as design net (role_of roles net)) pushes.cell) same pushes.stands in
        subst (λ (n : ℕ). CellStandsFor (nets_of design) new most (cell_as design n (role_of roles n)) (cell_at (cells ++ pushes.cell ∷ []) n)) e
        (subst (λ (cell : Cell). CellStandsFor (nets_of design) new most (cell_as design net (role_of roles net)) cell) (sym last) here)

-- ---- what pins see

trace_of-net : (design : Design) (roles : List Role) (lines : List Pin) (net tick : ℕ) → net < nets_of design → trace_of design roles lines net tick ≡ level_in design roles net tick
unfolding trace_of value
trace_of-net design roles lines net tick small = let e : ltb net (nets_of design) ≡ true = lt-ltb _ _ small in rw e

-- a net that isn't absent
trace_of-known : (design : Design) (roles : List Role) (lines : List Pin) (net tick : ℕ) → net < nets_of design → lacks roles net ≡ false → trace_of design roles lines net tick ≡ value design net tick
trace_of-known design roles lines net tick small known = trace_of-net design roles lines net tick small ∙ level-present design roles net tick known

trace_of-line : (design : Design) (roles : List Role) (lines : List Pin) (number tick : ℕ) (line : Pin) → slice_get lines number ≡ Some line
    → trace_of design roles lines (nets_of design + number) tick ≡ delayed (level_in design roles line.net) line.delay tick
unfolding trace_of value
trace_of-line design roles lines number tick line is =
    let e : ltb (nets_of design + number) (nets_of design) ≡ false = le-ltb _ _ (omega arith) in
    let at : nets_of design + number - nets_of design ≡ number = omega arith in
    rw (e, at, is) refl

delayed-at : (f g : ℕ → Level) (ticks tick : ℕ) → f (tick - ticks) ≡ g (tick - ticks) → delayed f ticks tick ≡ delayed g ticks tick
delayed-at f g ticks tick same = ap (λ (past : Level). if ltb tick ticks then X else past) same

delayed-late : (f : ℕ → Level) (ticks tick : ℕ) → ticks ≤ tick → delayed f ticks tick ≡ f (tick - ticks)
delayed-late f ticks tick late = let e : ltb tick ticks ≡ false = le-ltb _ _ late in rw e refl

module _ (design : Design) (roles : List Role) (lines : List Pin) (most : ℕ) where
  pin-sees : (wanted pin : Pin) (tick : ℕ) → lacks roles wanted.net ≡ false → StandsFor (nets_of design) lines most wanted pin
      → seen_at (trace_of design roles lines) tick pin ≡ delayed (value design wanted.net) wanted.delay tick
  pin-sees wanted pin tick known (inl h) =
      delayed-at (trace_of design roles lines pin.net) (value design pin.net) pin.delay tick
      (trace_of-known design roles lines pin.net (tick - pin.delay) h.net (ap (λ (p : Pin). lacks roles p.net) h.same ∙ known))
      ∙ ap (λ (p : Pin). delayed (value design p.net) p.delay tick) h.same
  pin-sees wanted pin tick known (inr h) =
      let now : tick - 0 ≡ tick = omega arith in
      ap (seen_at (trace_of design roles lines) tick) h.same
      ∙ delayed-late (trace_of design roles lines (nets_of design + h.number)) 0 tick (omega arith)
      ∙ ap (trace_of design roles lines (nets_of design + h.number)) now
      ∙ trace_of-line design roles lines h.number tick wanted h.line
      ∙ delayed-at (level_in design roles wanted.net) (value design wanted.net) wanted.delay tick (level-present design roles wanted.net (tick - wanted.delay) known)

  pins-see : (net tick pin : ℕ) (operands : List ℕ) (pins : List Pin) → AllByRecursion (λ operand. lacks roles operand ≡ false) operands
      → AllZip (StandsFor (nets_of design) lines most) (pins_from design net pin operands) pins
      → map (seen_at (trace_of design roles lines) tick) pins ≡ pin_levels design (value design) net tick pin operands
  pins-see net tick pin [] [] known h = refl
  pins-see net tick pin [] (p ∷ pins) known h = absurd h
  pins-see net tick pin (operand ∷ operands) [] known h = absurd h
  pins-see net tick pin (operand ∷ operands) (p ∷ pins) known h =
      ap₂ (λ level levels. level ∷ levels) (pin-sees (record { net = operand; delay = delay design net pin }) p tick known.0 h.0)
      (pins-see net tick (suc pin) operands pins known.1 h.1)

  -- the data of a flip-flop, when its sample arrives
  data-sees : (wanted pin : Pin) (tick : ℕ) → lacks roles wanted.net ≡ false → StandsFor (nets_of design) lines most wanted pin → wanted.delay ≤ tick
      → trace_of design roles lines pin.net (tick - pin.delay) ≡ value design wanted.net (tick - wanted.delay)
  data-sees wanted pin tick known stands late =
      sym (delayed-late (trace_of design roles lines pin.net) pin.delay tick (omega (arith, late, short stands)))
      ∙ pin-sees wanted pin tick known stands
      ∙ delayed-late (value design wanted.net) wanted.delay tick late
    where
      short : StandsFor (nets_of design) lines most wanted pin → pin.delay ≤ wanted.delay
      short (inl h) = omega (arith, ap (λ (p : Pin). p.delay) h.same)
      short (inr h) = omega (arith, ap (λ (p : Pin). p.delay) h.same)

  -- ---- what cells make

  flop-makes : (net source tick : ℕ) (other : Clock) (pin : Pin) → net < nets_of design → lacks roles net ≡ false → lacks roles source ≡ false
      → driver_of design.netlist net ≡ driver.Flop source
      → CellStandsFor (nets_of design) lines most (cell_by design net (driver.Flop source)) (Flop other pin)
      → value design net tick ≡ cell_row (trace_of design roles lines) net tick (Flop other pin)
  flop-makes net source tick other pin small own known is stands = go tick (cases_Bool (arrives design net tick))
    where
      same : (tick : ℕ) → arrives_by other pin.delay tick ≡ arrives design net tick
      same tick = ap₂ (λ (start period : ℕ). nat_le start tick && ((tick - start) % period == 0)) stands.1 stands.2

      by_row : (tick : ℕ) → value design net tick ≡ flop_row design (value design) net tick source
      by_row tick = value-meets_row design net tick ∙ ap (row design (value design) net tick) is

      go : (tick : ℕ) → (arrives design net tick ≡ true) ⊎ (arrives design net tick ≡ false) → value design net tick ≡ cell_row (trace_of design roles lines) net tick (Flop other pin)
      go tick (inl a) =
          let b : arrives_by other pin.delay tick ≡ true = same tick ∙ a in
          let parts = arrives_parts _ _ tick a in
          by_row tick ∙ rw (a, b) (sym (data-sees (record { net = source; delay = delay design net 1 }) pin tick known stands.3 (omega (arith, parts.0))))
      go zero (inr a) =
          let b : arrives_by other pin.delay zero ≡ false = same zero ∙ a in
          rw b (sym (trace_of-known design roles lines net zero small own))
      go (suc tick) (inr a) =
          let b : arrives_by other pin.delay (suc tick) ≡ false = same (suc tick) ∙ a in
          let past : suc tick - 1 ≡ tick = omega arith in
          by_row (suc tick) ∙ rw (a, b, past) (sym (trace_of-known design roles lines net tick small own))

  cell-makes : (net tick : ℕ) (cell : Cell) → net < nets_of design → lacks roles net ≡ false
      → ((operand : ℕ) → Contains (operands_of (driver_of design.netlist net)) operand → lacks roles operand ≡ false)
      → CellStandsFor (nets_of design) lines most (cell_in design net) cell → is_made cell ≡ true
      → trace_of design roles lines net tick ≡ cell_row (trace_of design roles lines) net tick cell
  cell-makes net tick cell small own known stands made = trace_of-known design roles lines net tick small own ∙ by_driver (driver_of design.netlist net) cell refl known stands made
    where
      by_driver : (by : Driver) (cell : Cell) → driver_of design.netlist net ≡ by → ((operand : ℕ) → Contains (operands_of by) operand → lacks roles operand ≡ false)
          → CellStandsFor (nets_of design) lines most (cell_by design net by) cell → is_made cell ≡ true
          → value design net tick ≡ cell_row (trace_of design roles lines) net tick cell
      by_driver driver.Input Told e known h made = absurd (false≢true made)
      by_driver driver.Input (Gate kind pins) e known h made = absurd h
      by_driver driver.Input (Flop clock pin) e known h made = absurd h
      by_driver (driver.Gate kind operands) Told e known h made = absurd h
      by_driver (driver.Gate kind operands) (Gate other pins) e known h made =
          value-at_gate design net tick kind operands e
          ∙ ap (gate kind)
          (sym (pins-see net tick 1 operands pins (recursion_from_All (λ operand. lacks roles operand ≡ false) operands (λ k d l. known (get_or operands k d) (Contains-get_or operands k d l))) h.2))
          ∙ ap (λ (k : Kind). gate k (map (seen_at (trace_of design roles lines) tick) pins)) (sym h.0)
      by_driver (driver.Gate kind operands) (Flop clock pin) e known h made = absurd h
      by_driver (driver.Flop source) Told e known h made = absurd h
      by_driver (driver.Flop source) (Gate kind pins) e known h made = absurd h
      by_driver (driver.Flop source) (Flop other pin) e known h made =
          flop-makes net source tick other pin small own (known source (Contains-get_or (source ∷ []) 0 source (omega arith))) e h

-- ---- what cells read

module _ (nets : ℕ) (lines : List Pin) (most : ℕ) where
  pin-lawful : (wanted pin : Pin) → StandsFor nets lines most wanted pin → (pin.net < nets + length lines) × (pin.delay ≤ most) × ((1 ≤ pin.delay) ⊎ (nets ≤ pin.net))
  pin-lawful wanted pin (inl h) = (omega (arith, h.net), h.within, inl h.some)
  pin-lawful wanted pin (inr h) =
      let slot : pin.net ≡ nets + h.number = ap (λ (p : Pin). p.net) h.same in
      let none : pin.delay ≡ 0 = ap (λ (p : Pin). p.delay) h.same in
      (omega (arith, slice_get_within lines h.number wanted h.line), omega arith, inr (omega arith))

  pins-lawful : (P : Pin → Type 0) → ((wanted pin : Pin) → StandsFor nets lines most wanted pin → P pin) → (wanted pins : List Pin) → AllZip (StandsFor nets lines most) wanted pins → AllByRecursion P pins
  pins-lawful P each [] [] h = tt
  pins-lawful P each [] (pin ∷ pins) h = absurd h
  pins-lawful P each (w ∷ wanted) [] h = absurd h
  pins-lawful P each (w ∷ wanted) (pin ∷ pins) h = (each w pin h.0, pins-lawful P each wanted pins h.1)

  cell-lawful : (wanted cell : Cell) → CellStandsFor nets lines most wanted cell → IsLawful (nets + length lines) most cell
  cell-lawful wanted Told h = tt
  cell-lawful Told (Gate other pins) h = absurd h
  cell-lawful (Gate kind wanted) (Gate other pins) h = (
    h.1,
    All-from_recursion (λ pin. pin.net < nets + length lines) pins (pins-lawful _ (λ w pin stands. (pin-lawful w pin stands).0) wanted pins h.2),
    All-from_recursion (λ pin. pin.delay ≤ most) pins (pins-lawful _ (λ w pin stands. (pin-lawful w pin stands).1) wanted pins h.2),
  )
  cell-lawful (Flop clock wanted) (Gate other pins) h = absurd h
  cell-lawful Told (Flop other pin) h = absurd h
  cell-lawful (Gate kind wanted) (Flop other pin) h = absurd h
  cell-lawful (Flop clock wanted) (Flop other pin) h = let parts = pin-lawful wanted pin h.3 in (h.0, parts.0, parts.1)

  cell-later : (wanted cell : Cell) → CellStandsFor nets lines most wanted cell → AllByRecursion (λ pin. (1 ≤ pin.delay) ⊎ (nets ≤ pin.net)) (pins_of cell)
  cell-later wanted Told h = tt
  cell-later Told (Gate other pins) h = absurd h
  cell-later (Gate kind wanted) (Gate other pins) h = pins-lawful _ (λ w pin stands. (pin-lawful w pin stands).2) wanted pins h.2
  cell-later (Flop clock wanted) (Gate other pins) h = absurd h
  cell-later Told (Flop other pin) h = absurd h
  cell-later (Gate kind wanted) (Flop other pin) h = absurd h
  cell-later (Flop clock wanted) (Flop other pin) h = ((pin-lawful wanted pin h.3).2, tt)

-- ---- the plan

-- no cell is behind the cells of the nets but what is told
told-behind : (cells : List Cell) (count slot : ℕ) → length cells ≤ slot → cell_at (cells ++ replicate count Told) slot ≡ Told
told-behind cells count slot late = get_or-append_right cells (replicate count Told) (length cells) slot Told refl late ∙ told count (slot - length cells)
  where
    told : (count slot : ℕ) → cell_at (replicate count Told) slot ≡ Told
    told zero slot = refl
    told (suc count) zero = refl
    told (suc count) (suc slot) = told count slot

-- what stands for a cell that is told is told
stands-told : (nets : ℕ) (lines : List Pin) (most : ℕ) (cell : Cell) → CellStandsFor nets lines most Told cell → is_made cell ≡ false
stands-told nets lines most Told h = refl
stands-told nets lines most (Gate kind pins) h = absurd h
stands-told nets lines most (Flop clock pin) h = absurd h

module _ (design : Design) (roles : List Role) (lines : List Pin) (most : ℕ) (cells : List Cell) (lawful_roles : AreRoles design roles)
    (are : AreCells design roles (nets_of design) cells lines most) where
  -- the cell of a driven net stands for what its driver makes
  driven-stands : (net : ℕ) → net < nets_of design → drives roles net ≡ true → CellStandsFor (nets_of design) lines most (cell_in design net) (cell_at cells net)
  driven-stands net small driven =
      subst (λ (role : Role). CellStandsFor (nets_of design) lines most (cell_as design net role) (cell_at cells net)) (driven-is (role_of roles net) driven) (are.stand net small)

  -- and that of any other is told
  other-told : (net : ℕ) → net < nets_of design → drives roles net ≡ false → is_made (cell_at cells net) ≡ false
  other-told net small = by_role (role_of roles net) (are.stand net small)
    where
      by_role : (role : Role) → CellStandsFor (nets_of design) lines most (cell_as design net role) (cell_at cells net) → is_driven role ≡ false → is_made (cell_at cells net) ≡ false
      by_role Driven stands other = absurd (false≢true (sym other))
      by_role Given stands other = stands-told (nets_of design) lines most (cell_at cells net) stands
      by_role Absent stands other = stands-told (nets_of design) lines most (cell_at cells net) stands

  made-driven : (net : ℕ) → net < nets_of design → is_made (cell_at cells net) ≡ true → drives roles net ≡ true
  made-driven net small made = go (cases_Bool (drives roles net))
    where
      go : (drives roles net ≡ true) ⊎ (drives roles net ≡ false) → drives roles net ≡ true
      go (inl h) = h
      go (inr h) = absurd (false≢true (sym (other-told net small h) ∙ made))

  -- the slots' cells: those of the nets, and behind them what is told of lines
  cell_of-net : (net : ℕ) → net < nets_of design → cell_at (cells ++ replicate (length lines) Told) net ≡ cell_at cells net
  cell_of-net net small = get_or_append_left cells (replicate (length lines) Told) Told net (omega (arith, are.count))

  cell_of-line : (slot : ℕ) → nets_of design ≤ slot → cell_at (cells ++ replicate (length lines) Told) slot ≡ Told
  cell_of-line slot late = told-behind cells (length lines) slot (omega (arith, are.count))

  -- what holds of the cells of nets, and of told ones, holds of all
  of_all : (P : Cell → Type 0) → P Told → ((net : ℕ) → net < nets_of design → P (cell_at cells net)) → (slot : ℕ) → P (cell_at (cells ++ replicate (length lines) Told) slot)
  of_all P told nets slot = go (cases_lt slot (nets_of design))
    where
      go : (slot < nets_of design) ⊎ (nets_of design ≤ slot) → P (cell_at (cells ++ replicate (length lines) Told) slot)
      go (inl l) = subst P (sym (cell_of-net slot l)) (nets slot l)
      go (inr l) = subst P (sym (cell_of-line slot l)) told

  slots-count : length (cells ++ replicate (length lines) Told) ≡ nets_of design + length lines
  slots-count = omega (arith, are.count, length-append cells (replicate (length lines) Told), length-replicate (length lines) Told)

  slots-meet : MeetsCells (trace_of design roles lines) (cell_at (cells ++ replicate (length lines) Told))
  slots-meet slot tick made = go (cases_lt slot (nets_of design))
    where
      go : (slot < nets_of design) ⊎ (nets_of design ≤ slot)
          → trace_of design roles lines slot tick ≡ cell_row (trace_of design roles lines) slot tick (cell_at (cells ++ replicate (length lines) Told) slot)
      go (inl l) =
          let is = cell_of-net slot l in
          let made_net : is_made (cell_at cells slot) ≡ true = ap is_made (sym is) ∙ made in
          let driven = made-driven slot l made_net in
          cell-makes design roles lines most slot tick (cell_at cells slot) l (driven-known roles slot driven) (λ operand. lawful_roles.known slot operand l driven) (driven-stands slot l driven) made_net
          ∙ ap (cell_row (trace_of design roles lines) slot tick) (sym is)
      go (inr l) = absurd (false≢true (sym (ap is_made (cell_of-line slot l)) ∙ made))

  slots-later : (slot : ℕ) → AllByRecursion (λ pin. is_made (cell_at (cells ++ replicate (length lines) Told) pin.net) ≡ true → 1 ≤ pin.delay) (pins_of (cell_at (cells ++ replicate (length lines) Told) slot))
  slots-later =
      of_all (λ cell. AllByRecursion (λ pin. is_made (cell_at (cells ++ replicate (length lines) Told) pin.net) ≡ true → 1 ≤ pin.delay) (pins_of cell))
      tt
      (λ net small. all-weaker _ _ (pins_of (cell_at cells net)) each
      (cell-later (nets_of design) lines most (cell_as design net (role_of roles net)) (cell_at cells net) (are.stand net small)))
    where
      each : (pin : Pin) → (1 ≤ pin.delay) ⊎ (nets_of design ≤ pin.net) → is_made (cell_at (cells ++ replicate (length lines) Told) pin.net) ≡ true → 1 ≤ pin.delay
      each pin (inl some) made = some
      each pin (inr line) made = absurd (false≢true (sym (ap is_made (cell_of-line pin.net line)) ∙ made))

  slots-inputs : (net : ℕ) → net < nets_of design → drives roles net ≡ true → is_made (cell_at (cells ++ replicate (length lines) Told) net) ≡ false → driver_of design.netlist net ≡ driver.Input
  slots-inputs net small driven told = by_driver (driver_of design.netlist net) (cell_at cells net) (driven-stands net small driven) (ap is_made (sym (cell_of-net net small)) ∙ told)
    where
      by_driver : (by : Driver) (cell : Cell) → CellStandsFor (nets_of design) lines most (cell_by design net by) cell → is_made cell ≡ false → by ≡ driver.Input
      by_driver driver.Input cell h told = refl
      by_driver (driver.Gate kind operands) Told h told = absurd h
      by_driver (driver.Gate kind operands) (Gate other pins) h told = absurd (false≢true (sym told))
      by_driver (driver.Gate kind operands) (Flop clock pin) h told = absurd h
      by_driver (driver.Flop source) Told h told = absurd h
      by_driver (driver.Flop source) (Gate kind pins) h told = absurd h
      by_driver (driver.Flop source) (Flop clock pin) h told = absurd (false≢true (sym told))

  slots-drivers : (net : ℕ) → net < nets_of design → driver_of design.netlist net ≡ driver.Input → is_made (cell_at (cells ++ replicate (length lines) Told) net) ≡ false
  slots-drivers net small is = ap is_made (cell_of-net net small) ∙ go (cases_Bool (drives roles net))
    where
      go : (drives roles net ≡ true) ⊎ (drives roles net ≡ false) → is_made (cell_at cells net) ≡ false
      go (inl h) =
          stands-told (nets_of design) lines most (cell_at cells net)
          (subst (λ (by : Driver). CellStandsFor (nets_of design) lines most (cell_by design net by) (cell_at cells net)) is (driven-stands net small h))
      go (inr h) = other-told net small h

  pub plan-is : (width : ℕ) → AreLines (nets_of design) lines most → width + most ≤ 63 → 2 ≤ width → All (λ line. width ≤ line.delay) lines
      → IsPlan design roles lines most width (cells ++ replicate (length lines) Told)
  plan-is width lawful fits wide sooner = record {
    count = slots-count;
    stand = λ net small.
        subst (λ (cell : Cell). CellStandsFor (nets_of design) lines most (cell_as design net (role_of roles net)) cell) (sym (cell_of-net net small)) (are.stand net small);
    meets = slots-meet;
    lawful = λ slot small.
        subst (λ (count : ℕ). IsLawful count most (cell_at (cells ++ replicate (length lines) Told) slot)) (sym slots-count)
        (of_all (IsLawful (nets_of design + length lines) most) tt (λ net l. cell-lawful (nets_of design) lines most (cell_as design net (role_of roles net)) (cell_at cells net) (are.stand net l)) slot);
    later = slots-later;
    inputs = slots-inputs;
    drivers = slots-drivers;
    others = λ net small other. ap is_made (cell_of-net net small) ∙ other-told net small other;
    told = λ slot late. ap is_made (cell_of-line slot late);
    sources = λ k d inside. let parts = lawful.sources k d inside in (parts.0, sooner k d inside, parts.2);
    some = lawful.some;
    fits = fits;
    wide = wide;
  }
