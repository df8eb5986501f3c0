-- What comes of texts, by what was planned for them and what was written.
use Rattle.std.proofs.Common.{◌≡◌, ◌⊎◌, ℕ, Bool, inl, inr, List, Option, Result, Ok, Err, refl, sym, subst}
use Rattle.std.proofs.KnownBytes.{Keeps-refl}
use Rattle.cmb_design_model.specs.Design.{Design}
use Rattle.cmb_design_model.specs.Exact.{nets_of}
use Rattle.cmb_run_scopes.specs.Scopes.{in_form}
use Rattle.cmb_run_text.specs.Chosen.{names_of, vcd_of}
use Rattle.cmb_run_text.specs.Vcd.{vcd}
use Rattle.cmb_cli_line.specs.declared.choice.Choice.TheVariants.{All, Only}
use Rattle.cmb_cli_line.specs.declared.choice.Pick.{Pick}
use Rattle.cmb_cli_line.specs.declared.line.Request.{Request}
use Rattle.cmb_inputs.specs.Chosen.{AreChosen}
use Rattle.cmb_inputs.specs.Inputs.{Texts}
use Rattle.cmb_inputs.specs.Outputs.{IsUntouched, Output, output}
use Rattle.cmb_inputs.specs.Spelling.{SpellAny}
use Rattle.cmb_sim.specs.Inner.Designs.{IsRunOf, MakesOf}
use Rattle.cmb_sim.specs.Inner.Plans.{FormMayBreak, IsPlan, IsPut, form_text}
use Rattle.cmb_sim.specs.Simulation.{Breaks, CanBeStopped, IsBroken, IsMade, IsRefused, IsRun, IsStreamed, IsTextOf, IsUnrun, report_of}
use Rattle.cmb_sim.specs.declared.plan.Plan.{Plan}
use Rattle.cmb_faults.specs.declared.answer.Report.{Report}
use Rattle.cmb_faults.specs.declared.fault.Fault.{Fault}
use Rattle.cmb_faults.specs.declared.fault.Fault.TheVariants as fault

-- before anything is written
pub untouched : (old : Option (List ℕ)) (n : ℕ) → IsUntouched (output old old n n)
untouched old n = (Keeps-refl old, refl)

-- nothing comes of it
pub IsMade-refused : {A : Type 0} (Makes : List ℕ → A → Type 0) (Refuses : Fault → Type 0) (Breaks : A → Fault → Type 0) (old : Option (List ℕ)) (n : ℕ) (f : Fault)
    → Refuses f → IsMade Makes Refuses Breaks (output old old n n) (Err f)
IsMade-refused Makes Refuses Breaks old n f h = record { ok = tt; fault = inl (h, untouched old n) }

-- it makes more, and refuses by more faults
pub IsMade-more : {A : Type 0} (Makes More : List ℕ → A → Type 0) (Refuses Others : Fault → Type 0) (Breaks : A → Fault → Type 0) (o : Output) (answer : Result A Fault)
    → ((text : List ℕ) (told : A) → Makes text told → More text told) → ((f : Fault) → Refuses f → Others f)
    → IsMade Makes Refuses Breaks o answer → IsMade More Others Breaks o answer
IsMade-more Makes More Refuses Others Breaks o (Ok told) more others h = record { ok = (h.ok.0, more h.ok.0 told h.ok.1, h.ok.2); fault = tt }
IsMade-more {A} Makes More Refuses Others Breaks o (Err f) more others h = record { ok = tt; fault = by h.fault }
  where
    by : ((Refuses f × IsUntouched o) ⊎ ((text : List ℕ) × (told : A) × Makes text told × IsBroken (Breaks told) text o f))
        → (Others f × IsUntouched o) ⊎ ((text : List ℕ) × (told : A) × More text told × IsBroken (Breaks told) text o f)
    by (inl h) = inl (others f h.0, h.1)
    by (inr h) = inr (h.0, h.1, more h.0 h.1 h.2, h.3)

-- what comes of the design that texts spell comes of the texts
pub IsRun-spelled : (request : Request) (texts : Texts) (design : Design) (o : Output) (answer : Result Report Fault) → SpellAny texts request.settings design
    → IsRunOf request design texts.names o answer → IsRun request texts o answer
IsRun-spelled request texts design o answer spelled h =
    IsMade-more (MakesOf (IsTextOf request.choice request.scopes) request design texts.names) _ (IsRefused request texts.names design) _ _ o answer
    (λ text report made. (design, spelled, made.0, made.1, made.2)) (λ f refused. inr (design, spelled, refused)) h

-- all nets are asked for, and can't be run
pub IsRefused-unrun : (request : Request) (names : List ℕ) (design : Design) (f : Fault) → request.choice ≡ All → IsUnrun request.mode design f → IsRefused request names design f
IsRefused-unrun request names design f all h = inr (in_form request.scopes design.netlist.names (vcd design), rw all refl, h)

-- chosen nets are asked for, and can't be run
pub IsRefused-chosen : (request : Request) (pick : Pick) (names nets : List ℕ) (design : Design) (f : Fault) → request.choice ≡ Only pick → AreChosen pick design names nets
    → IsUnrun request.mode design f → IsRefused request names design f
IsRefused-chosen request pick names nets design f only chosen h =
    inr (in_form request.scopes (names_of design.netlist nets) (vcd_of design nets), rw only (nets, chosen, refl), h)

-- a text breaks off only as what is asked for may
Breaks-form : (request : Request) (design : Design) (names text : List ℕ) (plan : Plan) → IsPlan request design names plan
    → (f : Fault) → FormMayBreak request.scopes plan design f → Breaks request (report_of design text) f
Breaks-form request design names text plan is (fault.Incomplete net upto) h =
    let MayStop : Bool → Type 0 = λ scopes. CanBeStopped request.mode request.threads request.choice scopes in
    (subst MayStop (sym h.0) (is.stops h.1.1.0), h.1.1.1, h.1.1.2)
Breaks-form request design names text plan is fault.Memory h =
    let MayStream : Bool → Type 0 = λ scopes. IsStreamed request.mode scopes in
    subst MayStream (sym h.0) (is.streams h.1.0 h.1.1)
Breaks-form request design names text plan is f h = absurd h.1.1

pub IsBroken-more : (B C : Fault → Type 0) (text : List ℕ) (o : Output) (f : Fault) → ((g : Fault) → B g → C g) → IsBroken B text o f → IsBroken C text o f
IsBroken-more B C text o (fault.Write n) more h = h
IsBroken-more B C text o f more h = (more f h.0, h.1)

module _ (request : Request) (names : List ℕ) (design : Design) (plan : Plan) (o : Output) (is : IsPlan request design names plan) where
  -- the text was written
  pub IsRunOf-written : (n : ℕ) → IsPut (form_text request.scopes plan.way design) (FormMayBreak request.scopes plan design) o (Ok n)
      → (nets horizon : ℕ) → nets ≡ nets_of design → horizon ≡ design.horizon
      → IsRunOf request design names o (Ok (record { nets = nets; horizon = horizon; written = n }))
  IsRunOf-written n put nets horizon p q = record { ok = (form_text request.scopes plan.way design, (is.text, is.runs, rw (p, q, put.told) refl), put.taken); fault = tt }

  -- it wasn't, or only a beginning of it
  pub IsRunOf-unwritten : (f : Fault) → IsPut (form_text request.scopes plan.way design) (FormMayBreak request.scopes plan design) o (Err f)
      → IsRunOf request design names o (Err f)
  IsRunOf-unwritten f put = by put.fault
    where
      by : (((f ≡ fault.Memory) × IsUntouched o) ⊎ IsBroken (FormMayBreak request.scopes plan design) (form_text request.scopes plan.way design) o f)
          → IsRunOf request design names o (Err f)
      by (inl h) =
          let none : IsRefused request names design fault.Memory = inr (form_text request.scopes plan.way design, is.text, tt) in
          record { ok = tt; fault = inl (subst (IsRefused request names design) (sym h.0) none, h.1) }
      by (inr h) =
          let text = form_text request.scopes plan.way design in record {
            ok = tt;
            fault = inr (text, report_of design text, (is.text, is.runs, refl), IsBroken-more _ _ text o f (Breaks-form request design names text plan is) h);
          }
