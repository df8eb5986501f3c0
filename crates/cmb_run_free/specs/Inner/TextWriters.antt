-- The text of a run that is written while it is collected.
use Rattle.std.specs.Prelude.{◌≡◌, ℕ, ◌≤◌, Bool, if◌then◌else◌, List, length, Option, None, Some, Result, Ok, Err, IfOk, IfErr, ⊤}
use Rattle.std.specs.Io.KnownBytes.{Appends}
use Rattle.cmb_design_model.specs.Design.{Design}
use Rattle.cmb_design_model.specs.Lawful.{IsDesign}
use Rattle.cmb_design_model.specs.Value.{value}
use Rattle.cmb_run_text.specs.Collector.{Collector, least}
use Rattle.cmb_run_text.specs.Writer.{Writer, done_text}
use Rattle.cmb_run_free.specs.FreeRuns.{IsCutAt, IsStoppedAt}
use Rattle.cmb_run_exact.specs.declared.run_fault.RunFault.{RunFault}
use Rattle.cmb_run_exact.specs.declared.run_fault.RunFault.TheVariants.{Incomplete, Write, Memory}

-- the design's text up to a tick, nothing where no tick is given
abbrev pub told : Design → Option ℕ → List ℕ
told design done = done_text design (value design) done

-- what is collected of a run, and the tick up to which its text is written, none where nothing is
pub record Backlog : Type 0 where
  pub collector : Collector
  pub written : Option ℕ

-- a tick up to which a text was given is no more than the horizon
abbrev pub IsWithin : Design → Option ℕ → Type 0
IsWithin design None = ⊤
IsWithin design (Some done) = done ≤ design.horizon

-- what a text writer keeps: its writer is of the design and gave what the backlog has as written, and it counts the bytes of that
pub record IsTextWriter (design : Design) (backlog : Backlog) (writer : Writer) (given : ℕ) : Type 0 where
  pub lawful : IsDesign design
  pub opened : writer.design ≡ design
  pub same : writer.done ≡ backlog.written
  pub within : IsWithin design backlog.written
  pub count : given ≡ length (told design backlog.written)

-- the text is given up to this tick at least
abbrev pub IsToldTo : Design → Option ℕ → ℕ → Type 0
IsToldTo design None upto = ⊥
IsToldTo design (Some done) upto = (upto ≤ done) × (done ≤ design.horizon)

-- so many bytes were given, which are the text as far as all is known, and the sink didn't fail
pub record IsGiven (design : Design) (old new : Option (List ℕ)) (before after : ℕ) (backlog : Backlog) (given : ℕ) : Type 0 where
  pub done : ℕ
  pub written : backlog.written ≡ Some done
  pub reached : least backlog.collector ≤ done
  pub within : done ≤ design.horizon
  pub count : given ≡ length (told design (Some done))
  pub text : Appends old new (told design (Some done))
  pub no_failure : after ≡ before

-- what telling a run comes to: all that is collected was given, or a beginning of the text
pub record IsTold (design : Design) (old new : Option (List ℕ)) (before after : ℕ) (backlog : Backlog) (given : Result ℕ RunFault) : Type 0 where
  pub whole : IfOk given (IsGiven design old new before after backlog)
  pub cut : IfErr given (IsCutAt design old new before after)

-- what a run comes to that met want of memory or didn't: a failed write is the answer before all else, and
-- want of memory before the rest
abbrev pub decision : Result ℕ RunFault → Bool → Result ℕ RunFault
decision (Ok given) refused = if refused then Err Memory else Ok given
decision (Err (Incomplete net upto collector)) refused = if refused then Err Memory else Err (Incomplete net upto collector)
decision (Err (Write written)) refused = Err (Write written)
decision (Err Memory) refused = Err Memory

-- the fault of a run is that of its text; want of memory may come in the place of all but a failed write
abbrev pub IsDecided : Result ℕ RunFault → RunFault → Type 0
IsDecided given Memory = (written : ℕ) → given ≡ Err (Write written) → ⊥
IsDecided given fault = given ≡ Err fault

-- why a run isn't whole: what collecting it came to, or that it was stopped; want of memory comes in the place of all but
-- a failed write
abbrev pub IsUnfinished : Result ℕ RunFault → Collector → RunFault → Type 0
IsUnfinished given collector Memory = (written : ℕ) → given ≡ Err (Write written) → ⊥
IsUnfinished (Ok given) collector fault = IsStoppedAt collector fault
IsUnfinished (Err why) collector fault = fault ≡ why
