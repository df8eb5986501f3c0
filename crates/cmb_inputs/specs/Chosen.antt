-- Which nets are chosen of a design.
use Rattle.std.specs.Prelude.{◌≡◌, ℕ, List, ⊤}
use Rattle.cmb_bench.specs.Listed.{HasUnknown, Lists}
use Rattle.cmb_netlist.specs.Netlist.{Netlist}
use Rattle.cmb_design_model.specs.Design.{Design}
use Rattle.cmb_design_model.specs.Exact.{nets_of}
use Rattle.cmb_faults.specs.declared.fault.Fault.{Fault}
use Rattle.cmb_faults.specs.declared.fault.Fault.TheVariants as fault
use Rattle.cmb_cli_line.specs.declared.choice.Pick.{Pick}
use Rattle.cmb_cli_line.specs.declared.choice.Pick.TheVariants.{Listed, Outputs}
use Rattle.cmb_cone.specs.Chosen.{each_once}

-- the nets that are chosen of a design, each once and by rising number: those that a list names, or the outputs
abbrev pub AreChosen : Pick → Design → List ℕ → List ℕ → Type 0
AreChosen Listed design names nets = (numbers : List ℕ) × Lists design.netlist names numbers × (nets ≡ each_once (nets_of design) numbers)
AreChosen Outputs design names nets = nets ≡ each_once (nets_of design) design.netlist.outputs

-- why no nets are chosen: memory aside, a token of the list that is no net's name
abbrev pub IsUnchosen : Pick → Netlist → List ℕ → Fault → Type 0
IsUnchosen pick netlist names (fault.Unknown line) = (pick ≡ Listed) × HasUnknown netlist names line
IsUnchosen pick netlist names fault.Memory = ⊤
IsUnchosen pick netlist names _ = ⊥
