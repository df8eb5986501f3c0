-- A design on a part of its netlist is a restriction of it, and none of its checks stands.
use Rattle.std.proofs.Common.{◌≡◌, ◌⊎◌, inl, inr, ℕ, List, Some, None, refl}
use Rattle.cmb_netlist.specs.Netlist.{Netlist, IsNetlist}
use Rattle.cmb_design_model.specs.Checks.{first_fault}
use Rattle.cmb_design_model.specs.Design.{Design}
use Rattle.cmb_design_model.specs.Lawful.{IsDesign}
use Rattle.cmb_design_model.specs.Part.{design_on}
use Rattle.cmb_design_model.specs.Settings.{design_checks}
use Rattle.cmb_design_model.specs.declared.fault.DesignFault.{DesignFault}
use Rattle.cmb_design_model.specs.declared.fault.DesignFault.TheVariants as fault
use Rattle.cmb_cone.specs.Closed.{IsClosed}
use Rattle.cmb_cone.specs.Restriction.{IsPart, IsRestriction}
use Rattle.cmb_cone.proofs.RowFacts.{delay-same, stimulus-same, clock-same, initial-same}
use Rattle.cmb_cone.proofs.CheckFacts.{part-passes}

pub restriction-is : (design : Design) (part : Netlist) (nets : List ℕ) → IsDesign design → IsClosed design.netlist nets → IsPart design.netlist nets part → IsNetlist part
    → IsRestriction design nets (design_on design part)
restriction-is design part nets lawful closed is sound = record {
  netlist = is;
  horizon = refl;
  delays = λ i pin within. delay-same design.netlist part nets closed is lawful.netlist sound design.delays i pin within;
  stimuli = λ i tick within. stimulus-same design.netlist part nets closed is lawful.netlist sound design.stimuli i tick within;
  clocks = λ i within. clock-same design.netlist part nets closed is lawful.netlist sound design i within refl;
  initial = λ i within. initial-same design.netlist part nets closed is lawful.netlist sound design i within refl;
}

pub only_memory : (design : Design) (part : Netlist) (nets : List ℕ) (reason : DesignFault) → IsDesign design → IsClosed design.netlist nets → IsPart design.netlist nets part → IsNetlist part
    → (reason ≡ fault.Memory) ⊎ (first_fault (design_checks (design_on design part)) ≡ Some reason) → reason ≡ fault.Memory
only_memory design part nets reason lawful closed is sound (inl e) = e
only_memory design part nets reason lawful closed is sound (inr e) =
    let none : first_fault (design_checks (design_on design part)) ≡ None = part-passes design part nets closed is lawful.netlist sound lawful.no_fault in cc (e, none)
