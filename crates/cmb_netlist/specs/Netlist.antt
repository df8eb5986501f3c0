-- A netlist: nets by number, each with its name and its one driver, and different net numbers as its outputs.
use Rattle.std.specs.Prelude.{◌≡◌, ℕ, ◌<◌, ◌≤◌, List, [], ◌∷◌, length, nat_eq, Option, position, slice_index_or, All}
use Rattle.std.specs.List.{IsDistinct}
use Rattle.std.specs.Str.{bytes_eq}
use Rattle.cmb_netlist.specs.declared.netlist.Kind.{Kind}
use Rattle.cmb_netlist.specs.declared.netlist.Kind.TheVariants.{Not, Buff}
use Rattle.cmb_netlist.specs.declared.netlist.Driver.{Driver}
use Rattle.cmb_netlist.specs.declared.netlist.Driver.TheVariants.{Input, Gate, Flop}

pub record Netlist : Type 0 where
  pub names : List (List ℕ)
  pub drivers : List Driver
  pub outputs : List ℕ

-- what drives a net; a number that is no net's counts as an input
abbrev pub driver_of : Netlist → ℕ → Driver
driver_of netlist net = slice_index_or netlist.drivers net Input

-- a net's name
abbrev pub name_of : Netlist → ℕ → List ℕ
name_of netlist net = slice_index_or netlist.names net []

-- the number of the net with a name: the place of the name among those of the nets, if it is there
unfoldable pub number_of : Netlist → List ℕ → Option ℕ
number_of netlist name = position (bytes_eq name) netlist.names

-- the nets on the pins of a driver, in order
abbrev pub pins_of : Driver → List ℕ
pins_of Input = []
pins_of (Gate kind operands) = operands
pins_of (Flop source) = source ∷ []

-- how many operands a gate may have
abbrev pub MayTake : Kind → ℕ → Type 0
MayTake Not operands = operands ≡ 1
MayTake Buff operands = operands ≡ 1
MayTake _ operands = 1 ≤ operands

-- the driver has pins as its kind wants, and each is one of so many nets
abbrev pub IsWired : ℕ → Driver → Type 0
IsWired nets Input = Unit {0}
IsWired nets (Gate kind operands) = MayTake kind (length operands) × All (λ operand. operand < nets) operands
IsWired nets (Flop source) = source < nets

-- what every netlist keeps: each net has a name of its own, of at most 255 bytes, and one driver; there are at most 65,535 nets;
-- operands and outputs are nets, operands as many as the kind takes, and the outputs are different
pub record IsNetlist (netlist : Netlist) : Type 0 where
  pub paired : length netlist.drivers ≡ length netlist.names
  pub few : length netlist.names ≤ 65535
  pub short_names : All (λ name. length name ≤ 255) netlist.names
  pub different_names : IsDistinct bytes_eq netlist.names
  pub wired : All (IsWired (length netlist.names)) netlist.drivers
  pub outputs : All (λ net. net < length netlist.names) netlist.outputs
  pub different_outputs : IsDistinct nat_eq netlist.outputs
