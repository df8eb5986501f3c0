-- Nets in feedback loops.
use Rattle.std.specs.Prelude.{◌≡◌, ℕ, Bool, List, count_by}
use Rattle.cmb_netlist.specs.Netlist.{Netlist}
use Rattle.cmb_graph.specs.Loops.{AreLoops}
use Rattle.cmb_graph.specs.declared.steps.Steps.{Steps}

-- as many nets are in loops: each of them is marked, and no other
pub record IsLoopCount (netlist : Netlist) (steps : Steps) (number : ℕ) : Type 0 where
  pub marks : List Bool
  pub loops : AreLoops netlist steps marks
  pub count : number ≡ count_by (λ mark. mark) marks
