-- Cells kept in two lists: a rule of each net, and the pins of gates.
use Rattle.std.specs.Prelude.{◌+◌, ◌≤◌, List, length, map, take, drop}
use Rattle.std.specs.List.{AllByRecursion}
use Rattle.cmb_engine.specs.Inner.Cells.{Cell, Told, Gate, Flop}
use Rattle.cmb_engine.specs.declared.cell.Pin.{Pin}
use Rattle.cmb_engine.specs.declared.cells.PinRange.{PinRange}
use Rattle.cmb_engine.specs.declared.cells.Rule.{Rule}
use Rattle.cmb_engine.specs.declared.cells.Rule.TheVariants as rule

-- a part of the pins
abbrev pub pins_at : List Pin → PinRange → List Pin
pins_at pins part = take part.count (drop part.first pins)

-- the cell of a rule
abbrev pub cell_of : List Pin → Rule → Cell
cell_of pins rule.Told = Told
cell_of pins (rule.Gate kind part) = Gate kind (pins_at pins part)
cell_of pins (rule.Flop clock pin) = Flop clock pin

abbrev pub cells_of : List Pin → List Rule → List Cell
cells_of pins rules = map (cell_of pins) rules

-- the pins that a rule finds there are among them
abbrev pub IsInside : List Pin → Rule → Type 0
IsInside pins rule.Told = Unit {0}
IsInside pins (rule.Gate kind part) = part.first + part.count ≤ length pins
IsInside pins (rule.Flop clock pin) = Unit {0}

abbrev pub AreInside : List Pin → List Rule → Type 0
AreInside pins rules = AllByRecursion (IsInside pins) rules
