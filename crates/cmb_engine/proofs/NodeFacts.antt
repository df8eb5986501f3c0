-- What visits read, kept in three lists.
use Rattle.std.proofs.Common.{◌≡◌, ℕ, ◌+◌, ◌<◌, ◌≤◌, true, false, List, [], ◌∷◌, ◌++◌, length, map, get_or, refl, ap, ap₂, sym, subst, ◌∙◌, arith, if◌then◌else◌}
use Rattle.std.specs.List.{All}
use Rattle.std.proofs.lemmas.List.{get_or_append_left, get_or-append-add, get_or-map, length-append, length-map, map-append}
use Rattle.std.proofs.lemmas.List.Elements.{All-cons, All-from_recursion, All-head, All-nil}
use Rattle.cmb_wave.specs.declared.level.Level.{Level}
use Rattle.cmb_netlist.specs.Kinds.{takes_one}
use Rattle.cmb_netlist.specs.declared.netlist.Cell.TheVariants as driver
use Rattle.cmb_netlist.specs.declared.netlist.Kind.{Kind}
use Rattle.cmb_netlist.specs.declared.netlist.Kind.TheVariants as kinds
use Rattle.cmb_design_model.specs.Gate.{gate}
use Rattle.cmb_words.specs.Bits.{level_in}
use Rattle.cmb_engine.specs.Inner.Cells.{Cell, Told, Gate, IsLawful, IsMade, Nodes, cell_at, cell_level, seen, with_node}
use Rattle.cmb_engine.specs.Inner.Known.{known_levels}
use Rattle.cmb_engine.specs.Inner.Nodes.{flop_of, node_cell, nodes_of, pin_of, pins_in, AreInside, IsInside, IsTwice}
use Rattle.cmb_engine.specs.Inner.Tables.{pins_at}
use Rattle.cmb_engine.specs.declared.cell.Pin.{Pin}
use Rattle.cmb_engine.specs.declared.cells.PinRange.{PinRange}
use Rattle.cmb_engine.specs.declared.nodes.Node.{Node}
use Rattle.cmb_engine.specs.declared.nodes.NodeRule.{NodeRule}
use Rattle.cmb_engine.specs.declared.nodes.NodeRule.TheVariants as rule
use Rattle.cmb_engine.specs.declared.nodes.Sampler.{Sampler}
use Rattle.cmb_engine.proofs.JoinFacts.{still}
use Rattle.cmb_engine.proofs.TableFacts.{pins_at-behind}

-- ---- the two places for pins

-- what the pins of a gate have in common, both places have
pub both-pins : (kind : Kind) (pin second : Pin) → IsTwice kind pin second → (P : Pin → Type 0) → All P (pins_in kind pin second) → All P (pin ∷ second ∷ [])
both-pins kind pin second twice P all =
    elim (takes_one (driver.Gate kind))
    as (λ v. takes_one (driver.Gate kind) ≡ v → All P (if v then pin ∷ [] else pin ∷ second ∷ []) → All P (pin ∷ second ∷ [])) [
      | true ↦ λ is one. let here = All-head P pin [] one in All-cons P pin (second ∷ []) here (All-cons P second [] (subst P (sym (twice is)) here) (All-nil P))
      | false ↦ λ is two. two
    ] refl all

pub both-lawful : (nets most : ℕ) (kind : Kind) (pin second : Pin) → IsTwice kind pin second → IsLawful nets most (Gate kind (pins_in kind pin second)) → IsLawful nets most (Gate kind (pin ∷ second ∷ []))
both-lawful nets most kind pin second twice h =
    (omega arith, both-pins kind pin second twice (λ p. p.net < nets) h.1, both-pins kind pin second twice (λ p. p.delay ≤ most) h.2)

-- a gate that takes one operand looks at the first of two
pub both-seen : (kind : Kind) (see : Pin → Level) (pin second : Pin) → gate kind (map see (pin ∷ second ∷ [])) ≡ gate kind (map see (pins_in kind pin second))
both-seen kinds.And see pin second = refl
both-seen kinds.Nand see pin second = refl
both-seen kinds.Or see pin second = refl
both-seen kinds.Nor see pin second = refl
both-seen kinds.Xor see pin second = refl
both-seen kinds.Xnor see pin second = refl
both-seen kinds.Not see pin second = refl
both-seen kinds.Buff see pin second = refl

-- ---- the node of a rank was read

module _ (pins : List Pin) (samplers : List Sampler) (nodes : List Node) (now : Nodes) (is : nodes_of pins samplers nodes ≡ now) (rank : ℕ) (within : rank < length now.slots)
    (node : Node) (read : node ≡ get_or nodes rank node) where
  rank-inside : rank < length nodes
  rank-inside = omega (arith, within, ap (λ (n : Nodes). length n.slots) is, length-map nodes (λ node. node.slot))

  -- its cell is that of its rule
  pub node-read : (r : NodeRule) → node.rule ≡ r → cell_at now.cells rank ≡ node_cell pins samplers r
  node-read r has =
      ap (λ (n : Nodes). cell_at n.cells rank) (sym is)
      ∙ get_or-map (λ (n : Node). node_cell pins samplers n.rule) nodes rank node Told rank-inside
      ∙ ap (λ (n : Node). node_cell pins samplers n.rule) (sym read)
      ∙ ap (node_cell pins samplers) has

  pub single-read : (kind : Kind) (ticks net : ℕ) (pin : Pin) → node.rule ≡ rule.Single kind ticks net → pin ≡ pin_of net ticks → cell_at now.cells rank ≡ Gate kind (pin ∷ [])
  single-read kind ticks net pin has one = node-read (rule.Single kind ticks net) has ∙ ap (λ (p : Pin). Gate kind (p ∷ [])) (sym one)

  pub double-read : (kind : Kind) (ticks later net other : ℕ) (pin second : Pin) → node.rule ≡ rule.Double kind ticks later net other → pin ≡ pin_of net ticks → second ≡ pin_of other later
      → cell_at now.cells rank ≡ Gate kind (pins_in kind pin second)
  double-read kind ticks later net other pin second has one two =
      node-read (rule.Double kind ticks later net other) has ∙ ap₂ (λ (p q : Pin). Gate kind (pins_in kind p q)) (sym one) (sym two)

  pub double-lawful : AreInside pins samplers nodes → (nets most : ℕ) (kind : Kind) (ticks later net other : ℕ) (pin second : Pin) → node.rule ≡ rule.Double kind ticks later net other → pin ≡ pin_of net ticks → second ≡ pin_of other later
      → IsLawful nets most (cell_at now.cells rank) → IsLawful nets most (Gate kind (pin ∷ second ∷ []))
  double-lawful inside nets most kind ticks later net other pin second has one two lawful =
      both-lawful nets most kind pin second twice (subst (λ (cell : Cell). IsLawful nets most cell) (double-read kind ticks later net other pin second has one two) lawful)
    where
      here : IsInside pins samplers node.rule
      here = subst (λ (n : Node). IsInside pins samplers n.rule) (sym read) (All-from_recursion (λ (n : Node). IsInside pins samplers n.rule) nodes inside rank node rank-inside)

      twice : IsTwice kind pin second
      twice = subst (λ (p : Pin). IsTwice kind p second) (sym one) (subst (λ (q : Pin). IsTwice kind (pin_of net ticks) q) (sym two) (subst (IsInside pins samplers) has here))

  pub double-within : AreInside pins samplers nodes → (nets most : ℕ) (kind : Kind) (ticks later net other : ℕ) (pin second : Pin) → node.rule ≡ rule.Double kind ticks later net other → pin ≡ pin_of net ticks → second ≡ pin_of other later
      → IsLawful nets most (cell_at now.cells rank) → most < 64 → (pin.net < nets) × (pin.delay < 64) × (second.net < nets) × (second.delay < 64)
  double-within inside nets most kind ticks later net other pin second has one two lawful short =
      let h = double-lawful inside nets most kind ticks later net other pin second has one two lawful in
      (h.1 0 pin (omega arith), omega (arith, h.2 0 pin (omega arith), short), h.1 1 pin (omega arith), omega (arith, h.2 1 pin (omega arith), short))

  pub gate-lawful : (nets most : ℕ) (kind : Kind) (part : PinRange) → node.rule ≡ rule.Gate kind part → IsLawful nets most (cell_at now.cells rank) → IsLawful nets most (Gate kind (pins_at pins part))
  gate-lawful nets most kind part has = subst (λ (cell : Cell). IsLawful nets most cell) (node-read (rule.Gate kind part) has)

  pub flop-read : AreInside pins samplers nodes → (number : ℕ) (sampler : Sampler) → node.rule ≡ rule.Flop number → sampler ≡ get_or samplers number sampler → cell_at now.cells rank ≡ flop_of sampler
  flop-read inside number sampler has is =
      node-read (rule.Flop number) has ∙ get_or-map flop_of samplers number sampler Told listed ∙ ap flop_of (sym is)
    where
      here : IsInside pins samplers node.rule
      here = subst (λ (n : Node). IsInside pins samplers n.rule) (sym read) (All-from_recursion (λ (n : Node). IsInside pins samplers n.rule) nodes inside rank node rank-inside)

      listed : number < length samplers
      listed = subst (IsInside pins samplers) has here

  pub flop-lawful : AreInside pins samplers nodes → (nets most number : ℕ) (sampler : Sampler) → node.rule ≡ rule.Flop number → sampler ≡ get_or samplers number sampler
      → IsLawful nets most (cell_at now.cells rank) → IsLawful nets most (flop_of sampler)
  flop-lawful inside nets most number sampler has is = subst (λ (cell : Cell). IsLawful nets most cell) (flop-read inside number sampler has is)

-- ---- one more node

-- what a rule finds in the other lists is still there where they grow
pins_kept : (xs ys : List Pin) (samplers : List Sampler) (r : NodeRule) → IsInside xs samplers r → IsInside (xs ++ ys) samplers r
pins_kept xs ys samplers rule.Told h = tt
pins_kept xs ys samplers (rule.Single kind ticks net) h = tt
pins_kept xs ys samplers (rule.Double kind ticks later net other) h = h
pins_kept xs ys samplers (rule.Gate kind part) h = omega (arith, h, length-append xs ys)
pins_kept xs ys samplers (rule.Flop number) h = h

flops_kept : (pins : List Pin) (xs ys : List Sampler) (r : NodeRule) → IsInside pins xs r → IsInside pins (xs ++ ys) r
flops_kept pins xs ys rule.Told h = tt
flops_kept pins xs ys (rule.Single kind ticks net) h = tt
flops_kept pins xs ys (rule.Double kind ticks later net other) h = h
flops_kept pins xs ys (rule.Gate kind part) h = h
flops_kept pins xs ys (rule.Flop number) h = omega (arith, h, length-append xs ys)

module _ (pins more_pins : List Pin) (samplers more_samplers : List Sampler) (kept : (r : NodeRule) → IsInside pins samplers r → IsInside more_pins more_samplers r) where
  inside_more : (nodes : List Node) (n : Node) → AreInside pins samplers nodes → IsInside more_pins more_samplers n.rule → AreInside more_pins more_samplers (nodes ++ n ∷ [])
  inside_more [] n h one = (one, tt)
  inside_more (m ∷ nodes) n h one = (kept m.rule h.0, inside_more nodes n h.1 one)

  all_kept : (nodes : List Node) → AreInside pins samplers nodes → AreInside more_pins more_samplers nodes
  all_kept [] h = tt
  all_kept (m ∷ nodes) h = (kept m.rule h.0, all_kept nodes h.1)

pub flops_stay : (pins : List Pin) (xs ys : List Sampler) (nodes : List Node) → AreInside pins xs nodes → AreInside pins (xs ++ ys) nodes
flops_stay pins xs ys = all_kept pins pins xs (xs ++ ys) (flops_kept pins xs ys)

pub pins_stay : (xs ys : List Pin) (samplers : List Sampler) (nodes : List Node) → AreInside xs samplers nodes → AreInside (xs ++ ys) samplers nodes
pins_stay xs ys samplers = all_kept xs (xs ++ ys) samplers samplers (pins_kept xs ys samplers)

pub flop_inside : (pins : List Pin) (samplers : List Sampler) (nodes : List Node) (slot number : ℕ) (sampler : Sampler) → AreInside pins samplers nodes → number ≡ length samplers
    → AreInside pins (samplers ++ sampler ∷ []) (nodes ++ record { slot = slot; rule = rule.Flop number } ∷ [])
flop_inside pins samplers nodes slot number sampler h last =
    inside_more pins pins samplers (samplers ++ sampler ∷ []) (flops_kept pins samplers (sampler ∷ [])) nodes (record { slot = slot; rule = rule.Flop number }) h
    (omega (arith, last, length-append samplers (sampler ∷ [])))

pub gate_inside : (xs ys : List Pin) (samplers : List Sampler) (nodes : List Node) (slot : ℕ) (kind : Kind) (part : PinRange) → AreInside xs samplers nodes
    → part.first ≡ length xs → part.count ≡ length ys → AreInside (xs ++ ys) samplers (nodes ++ record { slot = slot; rule = rule.Gate kind part } ∷ [])
gate_inside xs ys samplers nodes slot kind part h first count =
    inside_more xs (xs ++ ys) samplers samplers (pins_kept xs ys samplers) nodes (record { slot = slot; rule = rule.Gate kind part }) h
    (omega (arith, first, count, length-append xs ys))

pins_more : (xs ys : List Pin) (samplers : List Sampler) (r : NodeRule) → IsInside xs samplers r → node_cell (xs ++ ys) samplers r ≡ node_cell xs samplers r
pins_more xs ys samplers rule.Told h = refl
pins_more xs ys samplers (rule.Single kind ticks net) h = refl
pins_more xs ys samplers (rule.Double kind ticks later net other) h = refl
pins_more xs ys samplers (rule.Gate kind part) h = ap (Gate kind) (still xs ys part.first part.count h)
pins_more xs ys samplers (rule.Flop number) h = refl

flops_more : (pins : List Pin) (xs ys : List Sampler) (r : NodeRule) → IsInside pins xs r → node_cell pins (xs ++ ys) r ≡ node_cell pins xs r
flops_more pins xs ys rule.Told h = refl
flops_more pins xs ys (rule.Single kind ticks net) h = refl
flops_more pins xs ys (rule.Double kind ticks later net other) h = refl
flops_more pins xs ys (rule.Gate kind part) h = refl
flops_more pins xs ys (rule.Flop number) h =
    ap (λ (cells : List Cell). cell_at cells number) (map-append flop_of xs ys)
    ∙ get_or_append_left (map flop_of xs) (map flop_of ys) Told number (omega (arith, h, length-map xs flop_of))

-- the other lists may grow where each cell stays
module _ (pins more_pins : List Pin) (samplers more_samplers : List Sampler)
    (kept : (r : NodeRule) → IsInside pins samplers r → node_cell more_pins more_samplers r ≡ node_cell pins samplers r) where
  cells_more : (nodes : List Node) (n : Node) → AreInside pins samplers nodes
      → map (λ (m : Node). node_cell more_pins more_samplers m.rule) (nodes ++ n ∷ [])
      ≡ map (λ (m : Node). node_cell pins samplers m.rule) nodes ++ node_cell more_pins more_samplers n.rule ∷ []
  cells_more [] n h = refl
  cells_more (m ∷ nodes) n h = ap₂ (λ (cell : Cell) (cells : List Cell). cell ∷ cells) (kept m.rule h.0) (cells_more nodes n h.1)

  nodes_more : (nodes : List Node) (n : Node) → AreInside pins samplers nodes
      → nodes_of more_pins more_samplers (nodes ++ n ∷ []) ≡ with_node (nodes_of pins samplers nodes) n.slot (node_cell more_pins more_samplers n.rule)
  nodes_more nodes n h =
      ap₂ (λ (slots : List ℕ) (cells : List Cell). record { slots = slots; cells = cells })
      (map-append (λ (m : Node). m.slot) nodes (n ∷ [])) (cells_more nodes n h)

pub flop_nodes : (pins : List Pin) (samplers : List Sampler) (nodes : List Node) (slot number : ℕ) (sampler : Sampler) → AreInside pins samplers nodes → number ≡ length samplers
    → nodes_of pins (samplers ++ sampler ∷ []) (nodes ++ record { slot = slot; rule = rule.Flop number } ∷ []) ≡ with_node (nodes_of pins samplers nodes) slot (flop_of sampler)
flop_nodes pins samplers nodes slot number sampler h last =
    nodes_more pins pins samplers (samplers ++ sampler ∷ []) (flops_more pins samplers (sampler ∷ [])) nodes (record { slot = slot; rule = rule.Flop number }) h
    ∙ ap (with_node (nodes_of pins samplers nodes) slot) here
  where
    at : number ≡ length (map flop_of samplers) + 0
    at = omega (arith, last, length-map samplers flop_of)

    here : cell_at (map flop_of (samplers ++ sampler ∷ [])) number ≡ flop_of sampler
    here =
        ap₂ cell_at (map-append flop_of samplers (sampler ∷ [])) at
        ∙ get_or-append-add (map flop_of samplers) (flop_of sampler ∷ []) 0 Told

pub gate_nodes : (xs ys : List Pin) (samplers : List Sampler) (nodes : List Node) (slot : ℕ) (kind : Kind) (part : PinRange) → AreInside xs samplers nodes
    → part.first ≡ length xs → part.count ≡ length ys
    → nodes_of (xs ++ ys) samplers (nodes ++ record { slot = slot; rule = rule.Gate kind part } ∷ []) ≡ with_node (nodes_of xs samplers nodes) slot (Gate kind ys)
gate_nodes xs ys samplers nodes slot kind part h first count =
    nodes_more xs (xs ++ ys) samplers samplers (pins_more xs ys samplers) nodes (record { slot = slot; rule = rule.Gate kind part }) h
    ∙ ap (λ (pins : List Pin). with_node (nodes_of xs samplers nodes) slot (Gate kind pins)) (pins_at-behind xs ys part first count)

-- what stands from a place on in the word of a gate with two places for pins is what its cell makes
pub double-made : (cells : List Cell) (rank : ℕ) (kind : Kind) (pin second : Pin) (ones : List ℕ) (made result to first : ℕ)
    → cell_at cells rank ≡ Gate kind (pins_in kind pin second) → IsLawful (length ones) first (Gate kind (pin ∷ second ∷ []))
    → ((place : ℕ) → first ≤ place → place < 64 → level_in result 0 place ≡ level_in made 0 place)
    → ((place : ℕ) → pin.delay ≤ place → second.delay ≤ place → place < 64 → level_in made 0 place ≡ gate kind (map (seen (known_levels ones) place) (pin ∷ second ∷ [])))
    → IsMade (known_levels ones) (level_in result 0) to first (cell_at cells rank)
double-made cells rank kind pin second ones made result to first cell both spliced is place from small =
    spliced place from small
    ∙ is place (omega (arith, both.2 0 pin (omega arith), from)) (omega (arith, both.2 1 pin (omega arith), from)) small
    ∙ both-seen kind (seen (known_levels ones) place) pin second
    ∙ ap (λ (cell : Cell). cell_level (known_levels ones) (level_in result 0) to cell place) (sym cell)
