-- The first fault of a design, by the part of its checks in which it stands.
use Rattle.std.proofs.Common.{◌≡◌, ◌++◌, ◌∙◌, List, Some, None}
use Rattle.cmb_design_model.specs.Checks.{Check, first_fault, rows_checks}
use Rattle.cmb_design_model.specs.Design.{Design}
use Rattle.cmb_design_model.specs.Rows.{clock_row_checks, delay_row_checks, initial_row_checks, stimulus_row_checks}
use Rattle.cmb_design_model.specs.Settings.{design_checks, setting_checks}
use Rattle.cmb_design_model.specs.declared.fault.DesignFault.{DesignFault}
use Rattle.cmb_design_model.proofs.CheckFacts.{first_fault-none, first_fault-some}

-- the five parts
abbrev pub of_settings : Design → List Check
of_settings design = setting_checks design.netlist design.horizon design.clock design.clocks

abbrev pub of_delays : Design → List Check
of_delays design = rows_checks (delay_row_checks design.netlist) design.delays

abbrev pub of_stimuli : Design → List Check
of_stimuli design = rows_checks (stimulus_row_checks design.netlist) design.stimuli

abbrev pub of_clocks : Design → List Check
of_clocks design = rows_checks (clock_row_checks design.netlist) design.clocks

abbrev pub of_initial : Design → List Check
of_initial design = rows_checks (initial_row_checks design.netlist) design.initial

pub in_settings : (design : Design) (e : DesignFault) → first_fault (of_settings design) ≡ Some e → first_fault (design_checks design) ≡ Some e
in_settings design e h = first_fault-some (of_settings design) (of_delays design ++ (of_stimuli design ++ (of_clocks design ++ of_initial design))) e h

pub in_delays : (design : Design) (e : DesignFault) → first_fault (of_settings design) ≡ None → first_fault (of_delays design) ≡ Some e
    → first_fault (design_checks design) ≡ Some e
in_delays design e h g =
    first_fault-none (of_settings design) (of_delays design ++ (of_stimuli design ++ (of_clocks design ++ of_initial design))) h
    ∙ first_fault-some (of_delays design) (of_stimuli design ++ (of_clocks design ++ of_initial design)) e g

pub in_stimuli : (design : Design) (e : DesignFault) → first_fault (of_settings design) ≡ None → first_fault (of_delays design) ≡ None
    → first_fault (of_stimuli design) ≡ Some e → first_fault (design_checks design) ≡ Some e
in_stimuli design e h g f =
    first_fault-none (of_settings design) (of_delays design ++ (of_stimuli design ++ (of_clocks design ++ of_initial design))) h
    ∙ first_fault-none (of_delays design) (of_stimuli design ++ (of_clocks design ++ of_initial design)) g
    ∙ first_fault-some (of_stimuli design) (of_clocks design ++ of_initial design) e f

behind_stimuli : (design : Design) → first_fault (of_settings design) ≡ None → first_fault (of_delays design) ≡ None
    → first_fault (of_stimuli design) ≡ None → first_fault (design_checks design) ≡ first_fault (of_clocks design ++ of_initial design)
behind_stimuli design h g f =
    first_fault-none (of_settings design) (of_delays design ++ (of_stimuli design ++ (of_clocks design ++ of_initial design))) h
    ∙ first_fault-none (of_delays design) (of_stimuli design ++ (of_clocks design ++ of_initial design)) g
    ∙ first_fault-none (of_stimuli design) (of_clocks design ++ of_initial design) f

pub in_clocks : (design : Design) (e : DesignFault) → first_fault (of_settings design) ≡ None → first_fault (of_delays design) ≡ None
    → first_fault (of_stimuli design) ≡ None → first_fault (of_clocks design) ≡ Some e → first_fault (design_checks design) ≡ Some e
in_clocks design e h g f x = behind_stimuli design h g f ∙ first_fault-some (of_clocks design) (of_initial design) e x

pub in_initial : (design : Design) → first_fault (of_settings design) ≡ None → first_fault (of_delays design) ≡ None
    → first_fault (of_stimuli design) ≡ None → first_fault (of_clocks design) ≡ None → first_fault (design_checks design) ≡ first_fault (of_initial design)
in_initial design h g f x = behind_stimuli design h g f ∙ first_fault-none (of_clocks design) (of_initial design) x
