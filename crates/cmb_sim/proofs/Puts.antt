-- What comes of writing a text.
use Rattle.std.proofs.Common.{◌≡◌, ◌⊎◌, ℕ, Bool, true, false, inl, inr, List, [], ◌++◌, Option, Some, Result, Ok, Err, length, refl, subst, arith}
use Rattle.cmb_design_model.specs.Design.{Design}
use Rattle.cmb_run_free.specs.FreeRuns.{IsCutAt}
use Rattle.cmb_run_exact.specs.declared.run_fault.RunFault.{RunFault}
use Rattle.cmb_run_exact.specs.declared.run_fault.RunFault.TheVariants as run
use Rattle.cmb_dump_stream.specs.Streams.{IsBrokenOff}
use Rattle.cmb_io.specs.declared.write_fault.WriteFault.{WriteFault}
use Rattle.cmb_io.specs.declared.write_fault.WriteFault.TheVariants as stream
use Rattle.cmb_run_text.specs.Vcd.{vcd}
use Rattle.cmb_inputs.specs.Outputs.{HasTaken, IsCutShort, IsUntouched, Output, output}
use Rattle.cmb_faults.specs.Numbers.{run_as_fault, write_as_fault}
use Rattle.cmb_faults.specs.declared.fault.Fault.{Fault}
use Rattle.cmb_faults.specs.declared.fault.Fault.TheVariants as fault
use Rattle.cmb_sim.proofs.Outcomes.{IsBroken-more, untouched}
use Rattle.cmb_sim.specs.Inner.Plans.{EngineBreaks, FormMayBreak, IsPut, MayBreak, Streams, form_text}
use Rattle.cmb_sim.specs.Simulation.{IsBroken}
use Rattle.cmb_sim.specs.declared.plan.Plan.{Plan}
use Rattle.cmb_sim.specs.declared.plan.Way.{Way}
use Rattle.cmb_sim.specs.declared.plan.Way.TheVariants.{Free}
use Rattle.cmb_netlist.specs.declared.part_count.PartCount.{PartCount}

-- memory ran out before anything was written
pub IsPut-memory : (text : List ℕ) (Breaks : Fault → Type 0) (old : Option (List ℕ)) (n : ℕ) → IsPut text Breaks (output old old n n) (Err fault.Memory)
IsPut-memory text Breaks old n = record { told = tt; taken = tt; fault = inl (refl, untouched old n) }

-- a text that was there was cut short
pub IsPut-cut : (text : List ℕ) (Breaks : Fault → Type 0) (o : Output) (f : Fault) → IsCutShort text o f → IsPut text Breaks o (Err f)
IsPut-cut text Breaks o (fault.Write n) h = record { told = tt; taken = tt; fault = inr h }
IsPut-cut text Breaks o f h = absurd h

-- a text was written whole
pub IsPut-whole : (text : List ℕ) (Breaks : Fault → Type 0) (o : Output) (n : ℕ) → n ≡ length text → HasTaken text o → IsPut text Breaks o (Ok n)
IsPut-whole text Breaks o n told taken = record { told = told; taken = taken; fault = tt }

-- it may break off by more faults
pub IsPut-more : (text : List ℕ) (B C : Fault → Type 0) (o : Output) (answer : Result ℕ Fault) → ((f : Fault) → B f → C f) → IsPut text B o answer → IsPut text C o answer
IsPut-more text B C o (Ok n) more h = record { told = h.told; taken = h.taken; fault = tt }
IsPut-more text B C o (Err f) more h = record { told = tt; taken = tt; fault = by h.fault }
  where
    by : (((f ≡ fault.Memory) × IsUntouched o) ⊎ IsBroken B text o f) → ((f ≡ fault.Memory) × IsUntouched o) ⊎ IsBroken C text o f
    by (inl none) = inl none
    by (inr begun) = inr (IsBroken-more B C text o f more begun)

-- a text with scopes was put
pub IsPut-scoped : (scopes : Bool) (plan : Plan) (design : Design) (text : List ℕ) (o : Output) (answer : Result ℕ Fault) → scopes ≡ true
    → text ≡ form_text true plan.way design → IsPut text (λ _. ⊥) o answer → IsPut (form_text scopes plan.way design) (FormMayBreak scopes plan design) o answer
IsPut-scoped true plan design text o answer asked is h =
    let Put : List ℕ → Type 0 = λ t. IsPut t (λ _. ⊥) o answer in
    IsPut-more (form_text true plan.way design) (λ _. ⊥) (FormMayBreak true plan design) o answer (λ f none. absurd none) (subst Put is h)
IsPut-scoped false plan design text o answer asked is h = absurd (cc)

-- a text that was put into an empty sink in memory is what that holds
pub IsPut-held : (text : List ℕ) (Breaks : Fault → Type 0) (old new : List ℕ) (before after n : ℕ) → old ≡ [] → IsPut text Breaks (output (Some old) (Some new) before after) (Ok n) → new ≡ text
IsPut-held text Breaks old new before after n none put = let grown : new ≡ old ++ text = put.taken.0 in rw none at grown

-- a text that was written while an engine made it
pub IsPut-stream : (text : List ℕ) (old new : Option (List ℕ)) (before after : ℕ) (f : WriteFault)
    → IsBrokenOff text old new before after f → IsPut text EngineBreaks (output old new before after) (Err (write_as_fault f))
IsPut-stream text old new before after (stream.Write n) h = record { told = tt; taken = tt; fault = inr (h.short, h.begun, h.failed) }
IsPut-stream text old new before after stream.Memory h = record { told = tt; taken = tt; fault = inr (tt, h) }

-- by a way that streams
pub IsPut-engine : (text : List ℕ) (way : Way) (design : Design) (o : Output) (answer : Result ℕ Fault) → Streams way → IsPut text EngineBreaks o answer → IsPut text (MayBreak way design) o answer
IsPut-engine text way design o answer streams h = IsPut-more text EngineBreaks (MayBreak way design) o answer by h
  where
    by : (f : Fault) → EngineBreaks f → MayBreak way design f
    by fault.Memory b = streams
    by f b = absurd b

-- the same of workers that run freely, which may be stopped
pub IsPut-free : (workers clusters : PartCount) (design : Design) (old new : Option (List ℕ)) (before after : ℕ) (f : RunFault)
    → IsCutAt design old new before after f → IsPut (vcd design) (MayBreak (Free workers clusters) design) (output old new before after) (Err (run_as_fault f))
IsPut-free workers clusters design old new before after (run.Incomplete net upto collector) h = record {
  told = tt;
  taken = tt;
  fault = inr ((tt, omega (arith, h.2.exact.opened.nets, h.3.is_net), omega (arith, h.2.exact.opened.horizon, h.3.behind)), (h.0, h.1));
}
IsPut-free workers clusters design old new before after (run.Write n) h = record { told = tt; taken = tt; fault = inr (h.short, h.begun, h.failed) }
IsPut-free workers clusters design old new before after run.Memory h = record { told = tt; taken = tt; fault = inr (tt, h) }
