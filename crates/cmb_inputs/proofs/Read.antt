-- What comes of reading inputs.
use Rattle.std.proofs.Common.{ℕ, inl, inr, List, [], ◌∷◌, Result, Ok, Err}
use Rattle.cmb_faults.specs.declared.fault.Fault.{Fault}
use Rattle.cmb_faults.specs.declared.fault.Fault.TheVariants as fault
use Rattle.cmb_inputs.specs.Inputs.{AreTexts, HasNotFailed, Input, IsReading, LackTexts, NoneFailedBut, TellsFailed, Texts, listed}
use Rattle.cmb_cli_line.specs.declared.choice.Choice.{Choice}
use Rattle.cmb_cli_line.specs.declared.choice.Choice.TheVariants.{All, Only}
use Rattle.cmb_cli_line.specs.declared.choice.Pick.TheVariants.{Listed, Outputs}

-- a list of which no read failed, whether it is read or not
pub NoneFailedBut-listed : (Told : ℕ → Type 0) (choice : Choice) (list : Input) → HasNotFailed list → NoneFailedBut Told (listed choice list)
NoneFailedBut-listed Told All list h = tt
NoneFailedBut-listed Told (Only Outputs) list h = tt
NoneFailedBut-listed Told (Only Listed) list h = (λ _. h, tt)

-- an answer tells of more failed reads than another
pub NoneFailedBut-more : (Told More : ℕ → Type 0) (inputs : List Input) → ((n : ℕ) → Told n → More n) → NoneFailedBut Told inputs → NoneFailedBut More inputs
NoneFailedBut-more Told More [] more h = tt
NoneFailedBut-more Told More (i ∷ inputs) more h = (λ none. h.0 (λ told. none (more i.number told)), NoneFailedBut-more Told More inputs more h.1)

TellsFailed-same : (A B : Type 0) (f : Fault) (n : ℕ) → TellsFailed {A = A} (Err f) n → TellsFailed {A = B} (Err f) n
TellsFailed-same A B (fault.Read k) n h = h
TellsFailed-same A B f n h = absurd h

-- not all inputs were read
pub IsReading-unread : (A B : Type 0) (choice : Choice) (Goes : Texts → Result B Fault → Type 0) (Nothing : Type 0) (inputs : List Input) (f : Fault)
    → NoneFailedBut (TellsFailed {A = A} (Err f)) inputs → LackTexts inputs f → Nothing → IsReading choice Goes Nothing inputs (Err f)
IsReading-unread A B choice Goes Nothing inputs f failures lack nothing = record {
  failures = NoneFailedBut-more _ _ inputs (TellsFailed-same A B f) failures;
  comes = inl (lack, nothing);
}

-- the inputs were read
pub IsReading-read : (A B : Type 0) (choice : Choice) (Goes : Texts → Result B Fault → Type 0) (Nothing : Type 0) (inputs : List Input) (texts : Texts) (it : A) (answer : Result B Fault)
    → NoneFailedBut (TellsFailed {A = A} (Ok it)) inputs → AreTexts choice inputs texts → Goes texts answer → IsReading choice Goes Nothing inputs answer
IsReading-read A B choice Goes Nothing inputs texts it answer failures are goes = record {
  failures = NoneFailedBut-more _ _ inputs (λ n h. absurd h) failures;
  comes = inr (texts, are, goes);
}
