-- Feedback loops of a netlist, as a directed graph: a step leads from a net to each net that its driver reads.
use Rattle.std.specs.Prelude.{◌≡◌, ◌⊎◌, ℕ, ◌<◌, ◌≤◌, Bool, true, false, List, [], length, slice_index, slice_index_or, All, Contains}
use Rattle.cmb_netlist.specs.Netlist.{Netlist, driver_of, pins_of}
use Rattle.cmb_netlist.specs.declared.netlist.Driver.{Driver}
use Rattle.cmb_netlist.specs.declared.netlist.Driver.TheVariants.{Input, Gate, Flop}
use Rattle.cmb_graph.specs.declared.steps.Steps.{Steps}
use Rattle.cmb_graph.specs.declared.steps.Steps.TheVariants as kind

-- where steps lead from a net with this driver: to a gate's operands; to a flip-flop's data too, unless only gates count
abbrev pub targets_of : Steps → Driver → List ℕ
targets_of kind.All driver = pins_of driver
targets_of kind.Gates Input = []
targets_of kind.Gates (Gate kind operands) = operands
targets_of kind.Gates (Flop source) = []

-- where steps lead from a net
abbrev pub targets : Netlist → Steps → ℕ → List ℕ
targets netlist steps net = targets_of steps (driver_of netlist net)

-- a walk from one net to another: of one step, or of a step and then a walk
pub data Walk (next : ℕ → List ℕ) : ℕ → ℕ → Type 0 where
  one : {a b : ℕ} → Contains (next a) b → Walk next a b
  more : {a b c : ℕ} → Contains (next a) b → Walk next b c → Walk next a c

-- the net is in a loop: a walk leads from it back to it. In the words of R. E. Tarjan (Depth-first search and linear graph algorithms,
-- SIAM Journal on Computing 1(2), 1972): its strongly connected component has an edge inside
abbrev pub IsInLoop : Netlist → Steps → ℕ → Type 0
IsInLoop netlist steps net = Walk (targets netlist steps) net net

-- a mark for each net, set where it is in a loop, and nowhere else
pub record AreLoops (netlist : Netlist) (steps : Steps) (marks : List Bool) : Type 0 where
  pub long : length marks ≡ length netlist.names
  pub loops : (net : ℕ) → net < length netlist.names → slice_index_or marks net false ≡ true → IsInLoop netlist steps net
  pub all : (net : ℕ) → net < length netlist.names → IsInLoop netlist steps net → slice_index_or marks net false ≡ true

-- a net itself, or one to which a walk leads
abbrev pub Reaches : (ℕ → List ℕ) → ℕ → ℕ → Type 0
Reaches next a b = (a ≡ b) ⊎ Walk next a b

-- a number for each net: nets with one number reach each other, and steps lead to no greater number, so nets that reach each other have one
-- number
pub record AreStrongComponents (netlist : Netlist) (steps : Steps) (numbers : List ℕ) : Type 0 where
  pub nets : length numbers ≡ length netlist.names
  pub below : All (λ number. number < length netlist.names) numbers
  pub falls : (net : ℕ) → net < length netlist.names → All (λ target. slice_index numbers target ≤ slice_index numbers net) (targets netlist steps net)
  pub together : (net other : ℕ) → net < length netlist.names → other < length netlist.names
      → slice_index numbers net ≡ slice_index numbers other → Reaches (targets netlist steps) net other
