-- What comes of a simulation of which a table tells how active the nets are.
use Rattle.std.specs.Prelude.{◌≡◌, List, ℕ, Result}
use Rattle.std.specs.List.{range_with_len}
use Rattle.cmb_activity.specs.Texts.{activity_table}
use Rattle.cmb_design_model.specs.Design.{Design}
use Rattle.cmb_design_model.specs.Exact.{nets_of}
use Rattle.cmb_cli_line.specs.declared.choice.Choice.{Choice}
use Rattle.cmb_cli_line.specs.declared.choice.Choice.TheVariants.{All, Only}
use Rattle.cmb_cli_line.specs.declared.line.Request.{Request}
use Rattle.cmb_inputs.specs.Chosen.{AreChosen}
use Rattle.cmb_inputs.specs.Inputs.{Input, IsReading, Texts}
use Rattle.cmb_inputs.specs.Outputs.{IsUntouched, Output}
use Rattle.cmb_sim.specs.Simulation.{IsMade, MakesText, Refuses}
use Rattle.cmb_faults.specs.declared.answer.Report.{Report}
use Rattle.cmb_faults.specs.declared.fault.Fault.{Fault}

-- the table that is asked for of a design: that of all its nets, or of chosen ones
abbrev pub IsTableOf : Choice → Design → List ℕ → List ℕ → Type 0
IsTableOf All design names text = text ≡ activity_table design (range_with_len 0 (nets_of design))
IsTableOf (Only pick) design names text = (nets : List ℕ) × AreChosen pick design names nets × (text ≡ activity_table design nets)

-- What comes of texts that were read. They are refused as where their waveforms are asked for. The table is made whole before any of it is
-- written, so nothing but a write that fails breaks it off.
abbrev pub IsTabled : Request → Texts → Output → Result Report Fault → Type 0
IsTabled request texts o answer = IsMade (MakesText (IsTableOf request.choice) request texts) (Refuses request texts) (λ _ _. ⊥) o answer

-- What is answered, and what the sink takes. The inputs are read as where their waveforms are asked for.
abbrev pub IsMeasured : Request → List Input → Output → Result Report Fault → Type 0
IsMeasured request inputs o answer = IsReading request.choice (λ texts told. IsTabled request texts o told) (IsUntouched o) inputs answer
