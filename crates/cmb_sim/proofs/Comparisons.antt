-- What comes of a design of whose run a table expects something.
use Rattle.std.proofs.Common.{◌≡◌, ℕ, List, Result, Ok, Err, inr, length, refl}
use Rattle.cmb_design_model.specs.Design.{Design}
use Rattle.cmb_design_model.specs.Exact.{nets_of}
use Rattle.cmb_faults.specs.declared.answer.Comparison.{Comparison}
use Rattle.cmb_faults.specs.declared.fault.Fault.{Fault}
use Rattle.cmb_faults.specs.declared.fault.Fault.TheVariants as fault
use Rattle.cmb_inputs.specs.Inputs.{Texts}
use Rattle.cmb_inputs.specs.Outputs.{HasTaken, IsCutShort, Output}
use Rattle.cmb_inputs.specs.Spelling.{SpellAny}
use Rattle.cmb_cli_line.specs.declared.line.Request.{Request}
use Rattle.cmb_sim.proofs.Outcomes.{IsMade-more}
use Rattle.cmb_sim.specs.Expecting.{AreCompared, IsUncompared, comparison_of}
use Rattle.cmb_sim.specs.Inner.Compared.{IsCompared}
use Rattle.cmb_sim.specs.Inner.Designs.{IsComparisonOf, MakesComparisonOf}
use Rattle.cmb_sim.specs.Simulation.{CanRun}

-- what comes of the design that texts spell comes of the texts
pub AreCompared-spelled : (request : Request) (texts : Texts) (design : Design) (o : Output) (answer : Result Comparison Fault) → SpellAny texts request.settings design
    → IsComparisonOf request design texts.names o answer → AreCompared request texts o answer
AreCompared-spelled request texts design o answer spelled h =
    IsMade-more (MakesComparisonOf request design texts.names) _ (IsUncompared request texts.names design) _ _ o answer
    (λ text told made. (design, spelled, made)) (λ f refused. inr (design, spelled, refused)) h

module _ (request : Request) (design : Design) (table : List ℕ) (count differ : ℕ) (text : List ℕ) (o : Output)
    (compared : IsCompared design table count differ text) (runs : CanRun request.mode design) where
  -- the rows were written
  pub IsComparisonOf-written : HasTaken text o → (nets horizon written : ℕ) → nets ≡ nets_of design → horizon ≡ design.horizon → written ≡ length text
      → IsComparisonOf request design table o
      (Ok (record { report = record { nets = nets; horizon = horizon; written = written }; rows = count; differ = differ }))
  IsComparisonOf-written taken nets horizon written p q r = record {
    ok = (text, (compared.rows, compared.expected, compared.told, runs, rw (p, q, r, compared.counted, compared.differing) refl), taken);
    fault = tt;
  }

  -- only a beginning of them was
  pub IsComparisonOf-cut : (f : Fault) → IsCutShort text o f → IsComparisonOf request design table o (Err f)
  IsComparisonOf-cut (fault.Write n) cut = record {
    ok = tt;
    fault = inr (text, comparison_of design compared.rows text, (compared.rows, compared.expected, compared.told, runs, refl), cut);
  }
  IsComparisonOf-cut f other = absurd other
