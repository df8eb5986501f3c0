-- What comes of a design that texts spell, by the text of what names nets of it.
use Rattle.std.specs.Prelude.{◌≡◌, ℕ, List, Result}
use Rattle.cmb_design_model.specs.Design.{Design}
use Rattle.cmb_design_model.specs.declared.expected.Expected.{Expected}
use Rattle.cmb_expect.specs.Texts.{difference_table}
use Rattle.cmb_cli_line.specs.declared.line.Request.{Request}
use Rattle.cmb_inputs.specs.Expected.{AreExpected}
use Rattle.cmb_inputs.specs.Outputs.{Output}
use Rattle.cmb_faults.specs.declared.answer.Comparison.{Comparison}
use Rattle.cmb_faults.specs.declared.answer.Report.{Report}
use Rattle.cmb_faults.specs.declared.fault.Fault.{Fault}
use Rattle.cmb_sim.specs.Activities.{IsTableOf}
use Rattle.cmb_sim.specs.Expecting.{IsUncompared, comparison_of}
use Rattle.cmb_sim.specs.Simulation.{Breaks, CanRun, IsMade, IsRefused, IsTextOf, report_of}

-- a text that IsText says, with this report
abbrev pub MakesOf : (Design → List ℕ → List ℕ → Type 0) → Request → Design → List ℕ → List ℕ → Report → Type 0
MakesOf IsText request design names text report = IsText design names text × CanRun request.mode design × (report ≡ report_of design text)

-- the table of the rows that differ from its run
abbrev pub MakesComparisonOf : Request → Design → List ℕ → List ℕ → Comparison → Type 0
MakesComparisonOf request design table text told =
    (rows : List Expected) × AreExpected design table rows × (text ≡ difference_table design rows) × CanRun request.mode design
    × (told ≡ comparison_of design rows text)

-- its waveforms
abbrev pub IsRunOf : Request → Design → List ℕ → Output → Result Report Fault → Type 0
IsRunOf request design names o answer = IsMade (MakesOf (IsTextOf request.choice request.scopes) request design names) (IsRefused request names design) (Breaks request) o answer

-- the table of how active its nets are
abbrev pub IsTabledOf : Request → Design → List ℕ → Output → Result Report Fault → Type 0
IsTabledOf request design names o answer = IsMade (MakesOf (IsTableOf request.choice) request design names) (IsRefused request names design) (λ _ _. ⊥) o answer

-- the rows that differ from its run
abbrev pub IsComparisonOf : Request → Design → List ℕ → Output → Result Comparison Fault → Type 0
IsComparisonOf request design table o answer = IsMade (MakesComparisonOf request design table) (IsUncompared request table design) (λ _ _. ⊥) o answer
