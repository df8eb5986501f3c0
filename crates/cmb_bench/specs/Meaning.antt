-- The netlist that a text spells.
use Rattle.std.specs.Prelude.{◌≡◌, ℕ, List, [], ◌∷◌, Some, nat_eq, position}
use Rattle.std.specs.List.{flat_map}
use Rattle.std.specs.Str.{bytes_eq}
use Rattle.indexmap.specs.IndexSet.{insert_all}
use Rattle.cmb_netlist.specs.declared.netlist.Cell.{Cell}
use Rattle.cmb_netlist.specs.declared.netlist.Cell.TheVariants as cells
use Rattle.cmb_bench.specs.Text.{Snippet, IsCutting, tokens_of}
use Rattle.cmb_netlist.specs.Kinds.{cell_of}
use Rattle.cmb_bench.specs.Statement.{Statement, input, output, drive, Mention, driven}
use Rattle.cmb_netlist.specs.declared.netlist.Driver.{Driver}
use Rattle.cmb_netlist.specs.declared.netlist.Driver.TheVariants.{Input, Gate, Flop}
use Rattle.cmb_netlist.specs.Netlist.{Netlist}
use Rattle.cmb_bench.specs.Grammar.{SpellsAll, AreLawful}

-- the numbers are those of the nets with these names: their places among the names of all nets
abbrev pub Numbers : List (List ℕ) → List Mention → List ℕ → Type 0
Numbers names [] [] = Unit {0}
Numbers names [] (number ∷ numbers) = ⊥
Numbers names (used ∷ others) [] = ⊥
Numbers names (used ∷ others) (number ∷ numbers) = (position (bytes_eq used.name) names ≡ Some number) × Numbers names others numbers

-- what drives the net of a driver statement, by what its KIND names and the numbers of its operands; a flip-flop's one operand
-- is its data (no lawful statement has none)
abbrev pub driver_from : Cell → List ℕ → Driver
driver_from (cells.Gate kind) operands = Gate kind operands
driver_from cells.Flop [] = Flop 0
driver_from cells.Flop (operand ∷ operands) = Flop operand

-- what drives the nets, one for each driving statement in order
abbrev pub Drivers : List (List ℕ) → List Statement → List Driver → Type 0
Drivers names [] drivers = drivers ≡ []
Drivers names (input net ∷ statements) drivers = (more : List Driver) × (drivers ≡ Input ∷ more) × Drivers names statements more
Drivers names (output used ∷ statements) drivers = Drivers names statements drivers
Drivers names (drive net cell operands ∷ statements) drivers =
    (numbers : List ℕ) × (more : List Driver) × Numbers names operands numbers × (drivers ≡ driver_from cell numbers ∷ more) × Drivers names statements more

-- the name in an output statement
abbrev pub named_outputs : Statement → List Mention
named_outputs (input net) = []
named_outputs (output used) = used ∷ []
named_outputs (drive net cell operands) = []

-- the statements mean this netlist: net i is what the i-th driving statement drives, every name used is driven, and the outputs are
-- those of the output statements, each once, by first mention
pub record Means (statements : List Statement) (netlist : Netlist) : Type 0 where
  pub names : netlist.names ≡ driven statements
  pub drivers : Drivers (driven statements) statements netlist.drivers
  pub numbers : List ℕ
  pub outputs : Numbers (driven statements) (flat_map named_outputs statements) numbers
  pub once : netlist.outputs ≡ insert_all nat_eq [] numbers

-- the word in the place of KIND names this
abbrev pub IsKind : List ℕ → Cell → Type 0
IsKind word cell = cell_of word ≡ Some cell

-- The bytes spell this netlist: their tokens are those of a list of lawful statements, which mean it. A bad byte is no token of a
-- statement, so there is none.
pub record Reads (bytes : List ℕ) (netlist : Netlist) : Type 0 where
  pub snippets : List Snippet
  pub cut : IsCutting bytes snippets
  pub statements : List Statement
  pub spelled : SpellsAll IsKind statements (tokens_of snippets)
  pub lawful : AreLawful [] statements
  pub meant : Means statements netlist
