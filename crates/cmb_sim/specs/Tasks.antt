-- What comes of a line: the outcome of its run, the table of activities, that of what came otherwise than was expected, or the counts of what
-- its inputs spell.
use Rattle.std.specs.Prelude.{ℕ, List, Result, Ok, Err}
use Rattle.cmb_count.specs.Counting.{AreCounts}
use Rattle.cmb_count.specs.Texts.{IsCountsText}
use Rattle.cmb_count.specs.declared.counts.Counts.{Counts}
use Rattle.cmb_design_model.specs.Design.{Design}
use Rattle.cmb_design_model.specs.declared.settings.Settings.{Settings}
use Rattle.cmb_cli_line.specs.declared.choice.Choice.{Choice}
use Rattle.cmb_cli_line.specs.declared.choice.Choice.TheVariants.{All}
use Rattle.cmb_cli_line.specs.declared.line.Line.{Line}
use Rattle.cmb_cli_line.specs.declared.line.Request.{Request}
use Rattle.cmb_cli_line.specs.declared.line.Task.{Task}
use Rattle.cmb_cli_line.specs.declared.line.Task.TheVariants.{Run, Activity, Expect, Check}
use Rattle.cmb_inputs.specs.Inputs.{Input, IsReading, Texts, with_table}
use Rattle.cmb_inputs.specs.Outputs.{IsUntouched, Output}
use Rattle.cmb_inputs.specs.Spelling.{HaveTextFault, SpellAny}
use Rattle.cmb_sim.specs.Activities.{IsMeasured}
use Rattle.cmb_sim.specs.Expecting.{IsComparison}
use Rattle.cmb_sim.specs.Simulation.{IsMade, IsOutcome}
use Rattle.cmb_faults.specs.declared.answer.Done.{Done}
use Rattle.cmb_faults.specs.declared.answer.Done.TheVariants.{Ran, Measured, Compared, Checked}
use Rattle.cmb_faults.specs.declared.fault.Fault.{Fault}

abbrev pub request_of : Line → Request
request_of line = record { settings = line.settings; mode = line.mode; threads = line.threads; choice = line.choice; scopes = line.scopes }

-- of the nets that a line chooses a check asks nothing; what is expected is a table of nets
abbrev pub choice_for : Task → Choice → Choice
choice_for Run choice = choice
choice_for Activity choice = choice
choice_for Expect choice = with_table
choice_for Check choice = All

abbrev pub choice_in : Line → Choice
choice_in line = choice_for line.task line.choice

-- the number of what is read behind the tables: the list of nets, or what is expected
abbrev pub last_of : Task → ℕ
last_of Expect = 7
last_of _ = 5

abbrev pub last_input : Line → ℕ
last_input line = last_of line.task

-- a run answers as a simulation of what the line asks for does
abbrev pub IsRan : Line → List Input → Output → Result Done Fault → Type 0
IsRan line inputs o (Ok (Ran report)) = IsOutcome (request_of line) inputs o (Ok report)
IsRan line inputs o (Ok _) = ⊥
IsRan line inputs o (Err f) = IsOutcome (request_of line) inputs o (Err f)

-- a table of activities comes of what the line asks for
abbrev pub IsMeasuring : Line → List Input → Output → Result Done Fault → Type 0
IsMeasuring line inputs o (Ok (Measured report)) = IsMeasured (request_of line) inputs o (Ok report)
IsMeasuring line inputs o (Ok _) = ⊥
IsMeasuring line inputs o (Err f) = IsMeasured (request_of line) inputs o (Err f)

-- what came otherwise than the line's table expects
abbrev pub IsExpecting : Line → List Input → Output → Result Done Fault → Type 0
IsExpecting line inputs o (Ok (Compared told)) = IsComparison (request_of line) inputs o (Ok told)
IsExpecting line inputs o (Ok _) = ⊥
IsExpecting line inputs o (Err f) = IsComparison (request_of line) inputs o (Err f)

-- of the texts come these counts, and the text that tells them, with the first so many names of what they count
abbrev pub TellCounts : Settings → ℕ → Texts → List ℕ → Counts → Type 0
TellCounts settings named texts text counts =
    (design : Design) × SpellAny texts settings design × AreCounts design counts × IsCountsText design named counts text

-- the counts are written, whole or a beginning; or the texts spell no design, and nothing is written
abbrev pub IsCheck : Settings → ℕ → List Input → Output → Result Counts Fault → Type 0
IsCheck settings named inputs o answer =
    IsReading All (λ texts told. IsMade (TellCounts settings named texts) (HaveTextFault texts settings) (λ _ _. ⊥) o told) (IsUntouched o) inputs answer

abbrev pub IsCheckOf : Line → List Input → Output → Result Done Fault → Type 0
IsCheckOf line inputs o (Ok (Checked counts)) = IsCheck line.settings line.named inputs o (Ok counts)
IsCheckOf line inputs o (Ok _) = ⊥
IsCheckOf line inputs o (Err f) = IsCheck line.settings line.named inputs o (Err f)

-- what comes of the task
abbrev pub IsDoneBy : Task → Line → List Input → Output → Result Done Fault → Type 0
IsDoneBy Run line inputs o answer = IsRan line inputs o answer
IsDoneBy Activity line inputs o answer = IsMeasuring line inputs o answer
IsDoneBy Expect line inputs o answer = IsExpecting line inputs o answer
IsDoneBy Check line inputs o answer = IsCheckOf line inputs o answer

-- what comes of a line, with its task, its settings, its mode, its choice of nets and its form
abbrev pub IsDone : Line → List Input → Output → Result Done Fault → Type 0
IsDone line inputs o answer = IsDoneBy line.task line inputs o answer
