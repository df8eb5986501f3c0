-- What a whole simulation answers, and what it writes.
use Rattle.std.specs.Prelude.{◌≡◌, ℕ, ◌<◌, ◌≤◌, ◌⊎◌, Bool, false, List, [], ◌∷◌, length, nat_lt, Option, None, Some, Result, IfOk, IfErr, ⊤}
use Rattle.cmb_netlist.specs.declared.part_count.PartCount.{PartCount}
use Rattle.cmb_netlist.specs.Netlist.{Netlist}
use Rattle.cmb_design_model.specs.Checks.{Check, check, first_fault}
use Rattle.cmb_design_model.specs.Design.{Design}
use Rattle.cmb_design_model.specs.Exact.{nets_of}
use Rattle.cmb_design_model.specs.Plain.{cells_of}
use Rattle.cmb_design_model.specs.declared.fault.DesignFault.TheVariants.{TableTooLarge}
use Rattle.cmb_run_scopes.specs.Scopes.{in_form}
use Rattle.cmb_run_text.specs.Chosen.{names_of, vcd_of}
use Rattle.cmb_run_text.specs.Vcd.{vcd}
use Rattle.cmb_design_model.specs.declared.settings.Settings.{Settings}
use Rattle.cmb_cli_line.specs.declared.choice.Choice.{Choice}
use Rattle.cmb_cli_line.specs.declared.choice.Choice.TheVariants.{All, Only}
use Rattle.cmb_cli_line.specs.declared.line.Request.{Request}
use Rattle.cmb_cli_line.specs.declared.mode.Mode.{Mode}
use Rattle.cmb_cli_line.specs.declared.mode.Mode.TheVariants.{Plain, Rounds, Free}
use Rattle.cmb_inputs.specs.Chosen.{AreChosen, IsUnchosen}
use Rattle.cmb_inputs.specs.Inputs.{Input, IsReading, Texts}
use Rattle.cmb_inputs.specs.Outputs.{HasBegun, HasTaken, IsCutAfter, IsUntouched, Output}
use Rattle.cmb_inputs.specs.Spelling.{HaveTextFault, SpellAny}
use Rattle.cmb_faults.specs.declared.answer.Report.{Report}
use Rattle.cmb_faults.specs.declared.fault.Fault.{Fault}
use Rattle.cmb_faults.specs.declared.fault.Fault.TheVariants as fault

-- ---- what a mode can run

-- by a table of all levels a design with at most 16,777,216 of them; by clusters any
abbrev pub mode_checks : Mode → Design → List Check
mode_checks Plain design = check TableTooLarge (nat_lt 16777216 (cells_of design)) ∷ []
mode_checks (Rounds workers clusters) design = []
mode_checks (Free workers clusters) design = []

-- a design can be run in a mode
abbrev pub CanRun : Mode → Design → Type 0
CanRun mode design = first_fault (mode_checks mode design) ≡ None

-- why it can't: the first check of the mode that stands
abbrev pub IsUnrun : Mode → Design → Fault → Type 0
IsUnrun mode design (fault.Design f) = first_fault (mode_checks mode design) ≡ Some f
IsUnrun mode design fault.Memory = ⊤
IsUnrun mode design _ = ⊥

-- the text is written while the run goes on: in mode free, without scopes
abbrev pub IsStreamed : Mode → Bool → Type 0
IsStreamed (Free workers clusters) false = ⊤
IsStreamed _ _ = ⊥

-- the run can be stopped: several workers run freely, and write the text meanwhile
abbrev pub CanBeStopped : Mode → Option PartCount → Choice → Bool → Type 0
CanBeStopped (Free workers clusters) None All false = (2 ≤ workers.count) × (2 ≤ clusters.count)
CanBeStopped _ _ _ _ = ⊥

-- ---- what is to come of texts

-- the text that is asked for of a design: that of all its nets, or of chosen ones, with scopes or without
abbrev pub IsTextOf : Choice → Bool → Design → List ℕ → List ℕ → Type 0
IsTextOf All scopes design names text = text ≡ in_form scopes design.netlist.names (vcd design)
IsTextOf (Only pick) scopes design names text =
    (nets : List ℕ) × AreChosen pick design names nets × (text ≡ in_form scopes (names_of design.netlist nets) (vcd_of design nets))

-- all nets are asked for, without scopes, and nothing is said of threads
abbrev pub of_all : Settings → Mode → Request
of_all settings mode = record { settings = settings; mode = mode; threads = None; choice = All; scopes = false }

abbrev pub report_of : Design → List ℕ → Report
report_of design text = record { nets = nets_of design; horizon = design.horizon; written = length text }

-- of the texts comes a text, which IsText says of their design and of the names that are listed, with this report
abbrev pub MakesText : (Design → List ℕ → List ℕ → Type 0) → Request → Texts → List ℕ → Report → Type 0
MakesText IsText request texts text report =
    (design : Design) × SpellAny texts request.settings design × IsText design texts.names text × CanRun request.mode design
    × (report ≡ report_of design text)

-- of the texts comes the text that is asked for
abbrev pub Makes : Request → Texts → List ℕ → Report → Type 0
Makes request texts text report = MakesText (IsTextOf request.choice request.scopes) request texts text report

-- why no nets are chosen
abbrev pub IsUnasked : Choice → Netlist → List ℕ → Fault → Type 0
IsUnasked All netlist names f = ⊥
IsUnasked (Only pick) netlist names f = IsUnchosen pick netlist names f

-- why a design isn't run: no nets of it are chosen, or the mode can't run it
abbrev pub IsRefused : Request → List ℕ → Design → Fault → Type 0
IsRefused request names design f =
    IsUnasked request.choice design.netlist names f
    ⊎ ((text : List ℕ) × IsTextOf request.choice request.scopes design names text × IsUnrun request.mode design f)

-- why nothing comes of the texts: they spell no design, or it isn't run
abbrev pub Refuses : Request → Texts → Fault → Type 0
Refuses request texts f =
    HaveTextFault texts request.settings f ⊎ ((design : Design) × SpellAny texts request.settings design × IsRefused request texts.names design f)

-- why a run may break off while its text is written: it is stopped, and a net is known only below a tick; or memory runs out
abbrev pub Breaks : Request → Report → Fault → Type 0
Breaks request report (fault.Incomplete net upto) =
    CanBeStopped request.mode request.threads request.choice request.scopes × (net < report.nets) × (upto < report.horizon)
Breaks request report fault.Memory = IsStreamed request.mode request.scopes
Breaks request report _ = ⊥

-- ---- what comes of them

-- a beginning of a text was written: a write failed then, or the work broke off
abbrev pub IsBroken : (Fault → Type 0) → List ℕ → Output → Fault → Type 0
IsBroken Breaks text o (fault.Write n) = IsCutAfter n text o
IsBroken Breaks text o f = Breaks f × HasBegun text o

-- what comes of work that makes a text, of which something is told, that refuses by some faults, and that breaks off by others
pub record IsMade {A : Type 0} (Makes : List ℕ → A → Type 0) (Refuses : Fault → Type 0) (Breaks : A → Fault → Type 0) (o : Output) (answer : Result A Fault) : Type 0 where
  pub ok : IfOk answer (λ told. (text : List ℕ) × Makes text told × HasTaken text o)
  pub fault : IfErr answer (λ f. (Refuses f × IsUntouched o) ⊎ ((text : List ℕ) × (told : A) × Makes text told × IsBroken (Breaks told) text o f))

-- what comes of texts that were read
abbrev pub IsRun : Request → Texts → Output → Result Report Fault → Type 0
IsRun request texts o answer = IsMade (Makes request texts) (Refuses request texts) (Breaks request) o answer

-- What a simulation answers, and what its sink takes. The inputs are read in order; then the texts' faults are found in order, then that of
-- the list, then the mode's; then the text is written, all of it or a beginning. Before that nothing is written. Memory may run out before,
-- and where the text is written while the run goes on, also then. A read or a write fails only where that is the answer.
abbrev pub IsOutcome : Request → List Input → Output → Result Report Fault → Type 0
IsOutcome request inputs o answer = IsReading request.choice (λ texts told. IsRun request texts o told) (IsUntouched o) inputs answer
