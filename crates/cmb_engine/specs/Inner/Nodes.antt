-- What visits read, kept in three lists: the slot of each rank with the rule of its cell, pins that don't stand in rules, and the
-- flip-flops.
use Rattle.std.specs.Prelude.{◌≡◌, ◌+◌, ◌<◌, ◌≤◌, ℕ, true, List, [], ◌∷◌, length, map, if◌then◌else◌}
use Rattle.std.specs.List.{AllByRecursion}
use Rattle.cmb_netlist.specs.Kinds.{takes_one}
use Rattle.cmb_netlist.specs.declared.netlist.Cell.TheVariants as cell
use Rattle.cmb_netlist.specs.declared.netlist.Kind.{Kind}
use Rattle.cmb_engine.specs.Inner.Cells.{Cell, Told, Gate, Flop, Nodes, cell_at}
use Rattle.cmb_engine.specs.Inner.Tables.{pins_at}
use Rattle.cmb_engine.specs.declared.cell.Pin.{Pin}
use Rattle.cmb_engine.specs.declared.nodes.Node.{Node}
use Rattle.cmb_engine.specs.declared.nodes.NodeRule.{NodeRule}
use Rattle.cmb_engine.specs.declared.nodes.NodeRule.TheVariants as rule
use Rattle.cmb_engine.specs.declared.nodes.Sampler.{Sampler}

-- the pin of a net, so many ticks later
abbrev pub pin_of : ℕ → ℕ → Pin
pin_of net ticks = record { net = net; delay = ticks }

-- the pins of a gate whose rule has two places for them: if it takes one operand, its pin is in both
abbrev pub pins_in : Kind → Pin → Pin → List Pin
pins_in kind pin second = if takes_one (cell.Gate kind) then pin ∷ [] else pin ∷ second ∷ []

abbrev pub IsTwice : Kind → Pin → Pin → Type 0
IsTwice kind pin second = takes_one (cell.Gate kind) ≡ true → second ≡ pin

abbrev pub flop_of : Sampler → Cell
flop_of sampler = Flop sampler.clock sampler.pin

-- the cell of a rule
abbrev pub node_cell : List Pin → List Sampler → NodeRule → Cell
node_cell pins samplers rule.Told = Told
node_cell pins samplers (rule.Single kind ticks net) = Gate kind (pin_of net ticks ∷ [])
node_cell pins samplers (rule.Double kind ticks later net other) = Gate kind (pins_in kind (pin_of net ticks) (pin_of other later))
node_cell pins samplers (rule.Gate kind part) = Gate kind (pins_at pins part)
node_cell pins samplers (rule.Flop number) = cell_at (map flop_of samplers) number

abbrev pub nodes_of : List Pin → List Sampler → List Node → Nodes
nodes_of pins samplers nodes = record {
  slots = map (λ node. node.slot) nodes;
  cells = map (λ node. node_cell pins samplers node.rule) nodes;
}

-- what a rule finds in the other lists is there
abbrev pub IsInside : List Pin → List Sampler → NodeRule → Type 0
IsInside pins samplers rule.Told = Unit {0}
IsInside pins samplers (rule.Single kind ticks net) = Unit {0}
IsInside pins samplers (rule.Double kind ticks later net other) = IsTwice kind (pin_of net ticks) (pin_of other later)
IsInside pins samplers (rule.Gate kind part) = part.first + part.count ≤ length pins
IsInside pins samplers (rule.Flop number) = number < length samplers

abbrev pub AreInside : List Pin → List Sampler → List Node → Type 0
AreInside pins samplers nodes = AllByRecursion (λ node. IsInside pins samplers node.rule) nodes
