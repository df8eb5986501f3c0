-- Nets that are found by marks.
use Rattle.std.proofs.Common.{◌≡◌, ◌∙◌, ℕ, List, Bool, length, not, ap}
use Rattle.cmb_design_model.specs.Design.{Design}
use Rattle.cmb_count.specs.Findings.{IsFound, first_nets}
use Rattle.cmb_count.specs.Inner.Marks.{AreMarks, is_found}
use Rattle.cmb_count.specs.Unused.{is_unused}
use Rattle.cmb_count.specs.declared.findings.Finding.{Finding}
use Rattle.cmb_count.specs.declared.findings.Finding.TheVariants.{Silent, Still, InGateLoops, Unused}
use Rattle.cmb_count.proofs.FirstFacts.{first_by}

pub found_by_marks : (finding : Finding) (design : Design) (most : ℕ) (marks : List Bool) (nets : List ℕ) → AreMarks finding design marks
    → nets ≡ first_nets most (is_found finding design marks) (length design.netlist.names) → IsFound finding design most nets
found_by_marks Silent design most marks nets are is = is
found_by_marks Still design most marks nets are is = is
found_by_marks InGateLoops design most marks nets are is = (marks, are, is)
found_by_marks Unused design most marks nets are is =
    is ∙ first_by most (is_found Unused design marks) (is_unused design.netlist) (length design.netlist.names) (λ net within. ap not (are.marked net within))
