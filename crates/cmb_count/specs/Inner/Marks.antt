-- Nets that are found by marks.
use Rattle.std.specs.Prelude.{◌≡◌, ℕ, ◌<◌, Bool, false, not, List, length, slice_index_or}
use Rattle.cmb_design_model.specs.Design.{Design}
use Rattle.cmb_graph.specs.Loops.{AreLoops}
use Rattle.cmb_graph.specs.declared.steps.Steps.TheVariants as steps
use Rattle.cmb_netlist.specs.Netlist.{Netlist}
use Rattle.cmb_count.specs.DriverKinds.{is_silent, is_still}
use Rattle.cmb_count.specs.Unused.{is_used_below}
use Rattle.cmb_count.specs.declared.findings.Finding.{Finding}
use Rattle.cmb_count.specs.declared.findings.Finding.TheVariants.{Silent, Still, InGateLoops, Unused}

-- the nets that are outputs or that a pin reads are marked
pub record AreUsed (netlist : Netlist) (marks : List Bool) : Type 0 where
  pub long : length marks ≡ length netlist.names
  pub marked : (net : ℕ) → net < length netlist.names → slice_index_or marks net false ≡ is_used_below netlist (length netlist.names) net

abbrev pub AreMarks : Finding → Design → List Bool → Type 0
AreMarks Silent design marks = Unit {0}
AreMarks Still design marks = Unit {0}
AreMarks InGateLoops design marks = AreLoops design.netlist steps.Gates marks
AreMarks Unused design marks = AreUsed design.netlist marks

abbrev pub is_found : Finding → Design → List Bool → ℕ → Bool
is_found Silent design marks net = is_silent design net
is_found Still design marks net = is_still design net
is_found InGateLoops design marks net = slice_index_or marks net false
is_found Unused design marks net = not (slice_index_or marks net false)
