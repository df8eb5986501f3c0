-- What comes of a design of which a table of activities is asked for.
use Rattle.std.proofs.Common.{◌≡◌, ℕ, List, Result, Ok, Err, inr, length, refl}
use Rattle.cmb_design_model.specs.Design.{Design}
use Rattle.cmb_design_model.specs.Exact.{nets_of}
use Rattle.cmb_faults.specs.declared.answer.Report.{Report}
use Rattle.cmb_faults.specs.declared.fault.Fault.{Fault}
use Rattle.cmb_faults.specs.declared.fault.Fault.TheVariants as fault
use Rattle.cmb_inputs.specs.Inputs.{Texts}
use Rattle.cmb_inputs.specs.Outputs.{HasTaken, IsCutShort, Output}
use Rattle.cmb_inputs.specs.Spelling.{SpellAny}
use Rattle.cmb_cli_line.specs.declared.line.Request.{Request}
use Rattle.cmb_sim.proofs.Outcomes.{IsMade-more}
use Rattle.cmb_sim.specs.Activities.{IsTableOf, IsTabled}
use Rattle.cmb_sim.specs.Inner.Designs.{IsTabledOf, MakesOf}
use Rattle.cmb_sim.specs.Simulation.{CanRun, IsRefused, report_of}

-- what comes of the design that texts spell comes of the texts
pub IsTabled-spelled : (request : Request) (texts : Texts) (design : Design) (o : Output) (answer : Result Report Fault) → SpellAny texts request.settings design
    → IsTabledOf request design texts.names o answer → IsTabled request texts o answer
IsTabled-spelled request texts design o answer spelled h =
    IsMade-more (MakesOf (IsTableOf request.choice) request design texts.names) _ (IsRefused request texts.names design) _ _ o answer
    (λ text report made. (design, spelled, made.0, made.1, made.2)) (λ f refused. inr (design, spelled, refused)) h

module _ (request : Request) (names : List ℕ) (design : Design) (text : List ℕ) (o : Output)
    (table : IsTableOf request.choice design names text) (runs : CanRun request.mode design) where
  -- the table was written
  pub IsTabledOf-written : HasTaken text o → (nets horizon written : ℕ) → nets ≡ nets_of design → horizon ≡ design.horizon → written ≡ length text
      → IsTabledOf request design names o (Ok (record { nets = nets; horizon = horizon; written = written }))
  IsTabledOf-written taken nets horizon written p q r = record { ok = (text, (table, runs, rw (p, q, r) refl), taken); fault = tt }

  -- only a beginning of it was
  pub IsTabledOf-cut : (f : Fault) → IsCutShort text o f → IsTabledOf request design names o (Err f)
  IsTabledOf-cut (fault.Write n) cut = record { ok = tt; fault = inr (text, report_of design text, (table, runs, refl), cut) }
  IsTabledOf-cut f other = absurd other
