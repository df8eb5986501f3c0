-- The cells of a design's nets, and what stands for them where pins with long delays read lines.
use Rattle.std.specs.Prelude.{◌≡◌, ℕ, suc, ◌+◌, ◌^◌, ◌<◌, ◌≤◌, ◌⊎◌, List, [], ◌∷◌, ◌++◌, Some, All, length, slice_get}
use Rattle.std.specs.List.{AllZip}
use Rattle.cmb_netlist.specs.declared.netlist.Driver.{Driver}
use Rattle.cmb_netlist.specs.declared.netlist.Driver.TheVariants as driver
use Rattle.cmb_netlist.specs.Netlist.{driver_of}
use Rattle.cmb_design_model.specs.Design.{Design}
use Rattle.cmb_design_model.specs.Exact.{nets_of}
use Rattle.cmb_design_model.specs.Timing.{clock_of, delay}
use Rattle.cmb_engine.specs.Inner.Cells.{Cell, Told, Gate, Flop, cell_at, IsPace}
use Rattle.cmb_engine.specs.Inner.Roles.{role_of}
use Rattle.cmb_engine.specs.declared.cell.Pin.{Pin}
use Rattle.cmb_engine.specs.declared.role.Role.{Role}
use Rattle.cmb_engine.specs.declared.role.Role.TheVariants.{Driven, Given, Absent}

-- a net's pins from one on, each with its delay
abbrev pub pins_from : Design → ℕ → ℕ → List ℕ → List Pin
pins_from design net pin [] = []
pins_from design net pin (operand ∷ operands) =
    record { net = operand; delay = delay design net pin } ∷ pins_from design net (suc pin) operands

-- the cell of a net by its driver: an input's word is told by its stimulus
abbrev pub cell_by : Design → ℕ → Driver → Cell
cell_by design net driver.Input = Told
cell_by design net (driver.Gate kind operands) = Gate kind (pins_from design net 1 operands)
cell_by design net (driver.Flop source) = Flop (clock_of design net) (record { net = source; delay = delay design net 1 })

abbrev pub cell_in : Design → ℕ → Cell
cell_in design net = cell_by design net (driver_of design.netlist net)

-- what an engine makes of a net by the net's role: the word of one that it doesn't drive is told
abbrev pub cell_as : Design → ℕ → Role → Cell
cell_as design net Driven = cell_in design net
cell_as design net Given = Told
cell_as design net Absent = Told

-- ---- what stands for them

-- a pin is as it is wanted: its delay is short
pub record IsShort (nets most : ℕ) (wanted pin : Pin) : Type 0 where
  pub same : pin ≡ wanted
  pub net : pin.net < nets
  pub some : 1 ≤ pin.delay
  pub within : pin.delay ≤ most

-- a pin reads, with no delay, the line that shows what is wanted
pub record IsOfLine (nets : ℕ) (lines : List Pin) (wanted pin : Pin) : Type 0 where
  pub number : ℕ
  pub line : slice_get lines number ≡ Some wanted
  pub same : pin ≡ record { net = nets + number; delay = 0 }

abbrev pub StandsFor : ℕ → List Pin → ℕ → Pin → Pin → Type 0
StandsFor nets lines most wanted pin = IsShort nets most wanted pin ⊎ IsOfLine nets lines wanted pin

-- a cell whose pins stand for those of a wanted one; its samples arrive at the same ticks
abbrev pub CellStandsFor : ℕ → List Pin → ℕ → Cell → Cell → Type 0
CellStandsFor nets lines most Told Told = Unit {0}
CellStandsFor nets lines most (Gate kind wanted) (Gate other pins) =
    (other ≡ kind) × (1 ≤ length pins) × AllZip (StandsFor nets lines most) wanted pins
CellStandsFor nets lines most (Flop clock wanted) (Flop other pin) =
    IsPace other × (other.first + pin.delay ≡ clock.first + wanted.delay) × (other.period ≡ clock.period) × StandsFor nets lines most wanted pin
CellStandsFor nets lines most _ _ = ⊥

-- lines follow nets with long delays; the delays of all other pins are short
pub record AreLines (nets : ℕ) (lines : List Pin) (most : ℕ) : Type 0 where
  pub few : nets + length lines < 2 ^ 32
  pub sources : All (λ line. (line.net < nets) × (32 ≤ line.delay) × (line.delay ≤ 1000000)) lines
  pub some : 1 ≤ most
  pub short : most ≤ 31

-- more lines, and longer delays
pub record Grows (old new : List Pin) (least most : ℕ) : Type 0 where
  pub longer : least ≤ most
  pub kept : (number : ℕ) (line : Pin) → slice_get old number ≡ Some line → slice_get new number ≡ Some line

-- one more cell, which stands for a wanted one
pub record Pushes (old new : List Cell) (nets : ℕ) (lines : List Pin) (most : ℕ) (wanted : Cell) : Type 0 where
  pub cell : Cell
  pub pushed : new ≡ old ++ cell ∷ []
  pub stands : CellStandsFor nets lines most wanted cell

-- the cells of the first nets
pub record AreCells (design : Design) (roles : List Role) (upto : ℕ) (cells : List Cell) (lines : List Pin) (most : ℕ) : Type 0 where
  pub count : length cells ≡ upto
  pub stand : (net : ℕ) → net < upto → CellStandsFor (nets_of design) lines most (cell_as design net (role_of roles net)) (cell_at cells net)
