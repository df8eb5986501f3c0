-- What comes of a check, by what was counted and what was written.
use Rattle.std.proofs.Common.{◌⊎◌, ℕ, inl, inr, List, Option, Ok, Err}
use Rattle.std.specs.Prelude.{⊤}
use Rattle.cmb_count.specs.declared.counts.Counts.{Counts}
use Rattle.cmb_design_model.specs.declared.settings.Settings.{Settings}
use Rattle.cmb_cli_line.specs.declared.choice.Choice.TheVariants.{All}
use Rattle.cmb_inputs.proofs.Read.{NoneFailedBut-more}
use Rattle.cmb_inputs.specs.Checking.{AreCounted, IsCountOf}
use Rattle.cmb_inputs.specs.Inputs.{AreTexts, Input, IsReading, IsUnreadBy, Texts}
use Rattle.cmb_inputs.specs.Outputs.{HasTaken, IsCutShort, IsUntouched, Output, output}
use Rattle.cmb_inputs.specs.Spelling.{HaveTextFault}
use Rattle.cmb_inputs.specs.declared.check.Checked.{Checked}
use Rattle.cmb_sim.proofs.Outcomes.{untouched}
use Rattle.cmb_sim.specs.Simulation.{IsMade}
use Rattle.cmb_sim.specs.Tasks.{IsCheck, TellCounts}
use Rattle.cmb_faults.specs.declared.fault.Fault.{Fault}
use Rattle.cmb_faults.specs.declared.fault.Fault.TheVariants as fault

-- nothing was counted
pub IsCheck-uncounted : (settings : Settings) (named : ℕ) (inputs : List Input) (old : Option (List ℕ)) (n : ℕ) (f : Fault)
    → IsReading {A = Checked} All (AreCounted settings named) ⊤ inputs (Err f) → IsCheck settings named inputs (output old old n n) (Err f)
IsCheck-uncounted settings named inputs old n f h = record { failures = h.failures; comes = by h.comes }
  where
    by : ((IsUnreadBy {A = Checked} inputs (Err f) × ⊤) ⊎ ((texts : Texts) × AreTexts All inputs texts × AreCounted settings named texts (Err f)))
        → (IsUnreadBy {A = Counts} inputs (Err f) × IsUntouched (output old old n n))
        ⊎ ((texts : Texts) × AreTexts All inputs texts × IsMade (TellCounts settings named texts) (HaveTextFault texts settings) (λ _ _. ⊥) (output old old n n) (Err f))
    by (inl unread) = inl (unread.0, untouched old n)
    by (inr read) = inr (read.0, read.1, record { ok = tt; fault = inl (read.2.fault, untouched old n) })

module _ (settings : Settings) (named : ℕ) (inputs : List Input) (o : Output) (checked : Checked)
    (h : IsReading All (AreCounted settings named) ⊤ inputs (Ok checked)) where
  -- the texts of the design that was counted
  counted : (texts : Texts) × AreTexts All inputs texts × IsCountOf settings named texts checked
  counted = by h.comes
    where
      by : ((IsUnreadBy {A = Checked} inputs (Ok checked) × ⊤) ⊎ ((texts : Texts) × AreTexts All inputs texts × AreCounted settings named texts (Ok checked)))
          → (texts : Texts) × AreTexts All inputs texts × IsCountOf settings named texts checked
      by (inl unread) = absurd unread.0
      by (inr read) = (read.0, read.1, read.2.ok)

  told : TellCounts settings named counted.0 checked.text.items checked.counts
  told = let of = counted.2 in (of.0, of.1, of.2.counts, of.2.text)

  pub IsCheck-written : HasTaken checked.text.items o → IsCheck settings named inputs o (Ok checked.counts)
  IsCheck-written taken = record {
    failures = NoneFailedBut-more _ _ inputs (λ n told. absurd told) h.failures;
    comes = inr (counted.0, counted.1, record { ok = (checked.text.items, told, taken); fault = tt });
  }

  unwritten : (f : Fault) → IsCutShort checked.text.items o f → IsMade (TellCounts settings named counted.0) (HaveTextFault counted.0 settings) (λ _ _. ⊥) o (Err f)
  unwritten (fault.Write n) cut = record { ok = tt; fault = inr (checked.text.items, checked.counts, told, cut) }
  unwritten f other = absurd other

  pub IsCheck-unwritten : (f : Fault) → IsCutShort checked.text.items o f → IsCheck settings named inputs o (Err f)
  IsCheck-unwritten f why = record { failures = NoneFailedBut-more _ _ inputs (λ n told. absurd told) h.failures; comes = inr (counted.0, counted.1, unwritten f why) }
