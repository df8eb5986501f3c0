-- The checks of texts, part by part, and the design of rows that were read.
use Rattle.std.proofs.Common.{◌≡◌, ◌⊎◌, inl, inr, List, ◌++◌, None, Some, refl, sym, subst, ◌∙◌}
use Rattle.cmb_bench.specs.Meaning.{Reads}
use Rattle.cmb_netlist.specs.Netlist.{Netlist}
use Rattle.cmb_design_model.proofs.CheckFacts.{first_fault-none, first_fault-some}
use Rattle.cmb_design_model.specs.Checks.{Check, first_fault}
use Rattle.cmb_design_model.specs.Design.{design_of}
use Rattle.cmb_design_model.specs.declared.fault.DesignFault.{DesignFault}
use Rattle.cmb_design_model.specs.declared.fault.DesignFault.TheVariants.{Memory}
use Rattle.cmb_design_model.specs.declared.rows.ClockRow.{ClockRow}
use Rattle.cmb_design_model.specs.declared.rows.InitialRow.{InitialRow}
use Rattle.cmb_design_model.specs.declared.rows.DelayRow.{DelayRow}
use Rattle.cmb_design_model.specs.declared.rows.StimulusRow.{StimulusRow}
use Rattle.cmb_design_model.specs.declared.settings.Settings.{Settings}
use Rattle.cmb_faults.specs.Numbers.{design_as_fault}
use Rattle.cmb_inputs.specs.Inputs.{Texts}
use Rattle.cmb_inputs.specs.Spelling.{HaveTextFault, design_in, text_checks}
use Rattle.cmb_design_tables.specs.Readers.{table_rows, delay_row_of, stimulus_row_of, clock_row_of, initial_row_of}
use Rattle.cmb_design_tables.specs.Records.{table_records}

-- memory ran out, or this is the fault of the first check that stands
abbrev pub Stops : List Check → DesignFault → Type 0
Stops checks e = (e ≡ Memory) ⊎ (first_fault checks ≡ Some e)

pub Stops-front : (a b : List Check) (e : DesignFault) → Stops a e → Stops (a ++ b) e
Stops-front a b e (inl m) = inl m
Stops-front a b e (inr h) = inr (first_fault-some a b e h)

pub Stops-behind : (a b : List Check) (e : DesignFault) → first_fault a ≡ None → Stops b e → Stops (a ++ b) e
Stops-behind a b e none (inl m) = inl m
Stops-behind a b e none (inr h) = inr (first_fault-none a b none ∙ h)

pub none_behind : (a b : List Check) → first_fault a ≡ None → first_fault b ≡ None → first_fault (a ++ b) ≡ None
none_behind a b p q = first_fault-none a b p ∙ q

HaveTextFault-found : (texts : Texts) (settings : Settings) (netlist : Netlist) → Reads texts.bench netlist → (e : DesignFault)
    → first_fault (text_checks texts settings netlist) ≡ Some e → HaveTextFault texts settings (design_as_fault e)
HaveTextFault-found texts settings netlist read Memory h = tt
HaveTextFault-found texts settings netlist read e h = (netlist, read, h)

pub HaveTextFault-of : (texts : Texts) (settings : Settings) (netlist : Netlist) (e : DesignFault) → Reads texts.bench netlist
    → Stops (text_checks texts settings netlist) e → HaveTextFault texts settings (design_as_fault e)
HaveTextFault-of texts settings netlist e read (inl m) =
    let P : DesignFault → Type 0 = λ d. HaveTextFault texts settings (design_as_fault d) in subst P (sym m) tt
HaveTextFault-of texts settings netlist e read (inr h) = HaveTextFault-found texts settings netlist read e h

-- the design of rows that are those of the tables
pub design_in-rows : (texts : Texts) (settings : Settings) (netlist : Netlist) (delays : List DelayRow) (stimuli : List StimulusRow) (clocks : List ClockRow) (initial : List InitialRow)
    → delays ≡ table_rows delay_row_of (table_records texts.delays) → stimuli ≡ table_rows stimulus_row_of (table_records texts.stimuli)
    → clocks ≡ table_rows clock_row_of (table_records texts.clocks) → initial ≡ table_rows initial_row_of (table_records texts.initial)
    → design_of netlist settings delays stimuli clocks initial ≡ design_in texts settings netlist
design_in-rows texts settings netlist delays stimuli clocks initial p q r s = rw (p, q, r, s) refl
