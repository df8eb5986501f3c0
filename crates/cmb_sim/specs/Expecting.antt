-- What comes of a simulation that is compared with what a table expects of it.
use Rattle.std.specs.Prelude.{◌≡◌, ◌⊎◌, List, ℕ, length, None, Result, count_by}
use Rattle.cmb_design_model.specs.Checks.{first_fault}
use Rattle.cmb_design_model.specs.Design.{Design}
use Rattle.cmb_design_model.specs.declared.expected.Expected.{Expected}
use Rattle.cmb_expect.specs.Expectations.{differs}
use Rattle.cmb_expect.specs.Texts.{difference_table}
use Rattle.cmb_cli_line.specs.declared.line.Request.{Request}
use Rattle.cmb_inputs.specs.Expected.{AreExpected, AreUnexpected, expected_checks}
use Rattle.cmb_inputs.specs.Inputs.{Input, IsReading, Texts, with_table}
use Rattle.cmb_inputs.specs.Outputs.{IsUntouched, Output}
use Rattle.cmb_inputs.specs.Spelling.{HaveTextFault, SpellAny}
use Rattle.cmb_sim.specs.Simulation.{CanRun, IsMade, IsUnrun, report_of}
use Rattle.cmb_faults.specs.declared.answer.Comparison.{Comparison}
use Rattle.cmb_faults.specs.declared.fault.Fault.{Fault}

-- what is told of rows of which a text tells those that differ
abbrev pub comparison_of : Design → List Expected → List ℕ → Comparison
comparison_of design rows text = record { report = report_of design text; rows = length rows; differ = count_by (differs design) rows }

-- of the texts comes the table of those rows that differ from their design's run
abbrev pub MakesComparison : Request → Texts → List ℕ → Comparison → Type 0
MakesComparison request texts text told =
    (design : Design) × SpellAny texts request.settings design × ((rows : List Expected) × AreExpected design texts.names rows × (text ≡ difference_table design rows)
    × CanRun request.mode design × (told ≡ comparison_of design rows text))

-- why a design isn't compared: the table can't expect that of it, or the mode can't run it
abbrev pub IsUncompared : Request → List ℕ → Design → Fault → Type 0
IsUncompared request table design f = AreUnexpected design table f ⊎ ((first_fault (expected_checks design table) ≡ None) × IsUnrun request.mode design f)

-- why nothing comes of the texts: they spell no design, or it isn't compared
abbrev pub RefusesComparison : Request → Texts → Fault → Type 0
RefusesComparison request texts f =
    HaveTextFault texts request.settings f ⊎ ((design : Design) × SpellAny texts request.settings design × IsUncompared request texts.names design f)

-- What comes of texts that were read. The table is made whole before any of it is written.
abbrev pub AreCompared : Request → Texts → Output → Result Comparison Fault → Type 0
AreCompared request texts o answer = IsMade (MakesComparison request texts) (RefusesComparison request texts) (λ _ _. ⊥) o answer

-- What is answered, and what the sink takes. The table of what is expected is read behind the others, as a list of nets is.
abbrev pub IsComparison : Request → List Input → Output → Result Comparison Fault → Type 0
IsComparison request inputs o answer = IsReading with_table (λ texts told. AreCompared request texts o told) (IsUntouched o) inputs answer
