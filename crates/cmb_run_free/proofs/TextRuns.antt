-- What a run with its text comes to.
use Rattle.std.proofs.Common.{◌≡◌, ◌∙◌, ℕ, List, Option, Some, Result, Ok, Err, length, refl, ap, sym, subst, arith}
use Rattle.std.specs.Prelude.{unwrap_or, IfOk}
use Rattle.std.specs.Io.KnownBytes.{Appends}
use Rattle.cmb_design_model.specs.Design.{Design}
use Rattle.cmb_run_text.specs.Beginnings.{HasBegun}
use Rattle.cmb_run_text.specs.Collector.{Collector, IsComplete, IsExactFrom}
use Rattle.cmb_run_text.specs.Vcd.{vcd}
use Rattle.cmb_run_free.specs.FreeRuns.{IsCutAt, IsStoppedAt}
use Rattle.cmb_run_free.specs.Inner.TextWriters.{Backlog, IsGiven, IsTold, IsUnfinished}
use Rattle.cmb_run_exact.specs.declared.run_fault.RunFault.{RunFault}
use Rattle.cmb_run_exact.specs.declared.run_fault.RunFault.TheVariants.{Incomplete, Write, Memory}
use Rattle.cmb_run_free.proofs.TextWriterFacts.{HasBegun-told, told-whole as told-all}

HasBegun-given : (design : Design) (old new : Option (List ℕ)) (before after : ℕ) (backlog : Backlog) (given : ℕ) → IsGiven design old new before after backlog given → HasBegun (vcd design) old new
HasBegun-given design old new before after backlog given h = HasBegun-told design (Some h.done) old new h.within h.text

-- the run ended before all was known
IsCutAt-stopped : (design : Design) (old new : Option (List ℕ)) (before after : ℕ) (backlog : Backlog) (given : ℕ) (collector : Collector) (fault : RunFault)
    → IsExactFrom design (unwrap_or backlog.written 0) collector → IsGiven design old new before after backlog given → IsStoppedAt collector fault → IsCutAt design old new before after fault
IsCutAt-stopped design old new before after backlog given collector (Incomplete net tick known) exact h s =
    let from : IsExactFrom design h.done collector = subst (λ (k : Option ℕ). IsExactFrom design (unwrap_or k 0) collector) h.written exact in (
      HasBegun-given design old new before after backlog given h,
      h.no_failure,
      record { done = h.done; within = h.within; text = h.text; exact = subst (λ (c : Collector). IsExactFrom design h.done c) (sym s.0) from },
      s.1,
    )
IsCutAt-stopped design old new before after backlog given collector (Write w) exact h s = absurd s
IsCutAt-stopped design old new before after backlog given collector Memory exact h s = absurd s

-- all was known
given-whole : (design : Design) (old new : Option (List ℕ)) (before after : ℕ) (backlog : Backlog) (given : ℕ) → IsExactFrom design (unwrap_or backlog.written 0) backlog.collector → IsComplete backlog.collector → IsGiven design old new before after backlog given
    → (given ≡ length (vcd design)) × Appends old new (vcd design)
given-whole design old new before after backlog given exact complete h =
    let end : h.done ≡ design.horizon = omega (arith, h.reached, h.within, complete, exact.opened.horizon) in
    let whole = told-all design h.done end in
    (h.count ∙ ap length whole, subst (Appends old new) whole h.text)

-- ---- with what collecting came to

module _ (design : Design) (old new : Option (List ℕ)) (before after : ℕ) (backlog : Backlog) (exact : IsExactFrom design (unwrap_or backlog.written 0) backlog.collector) where
  pub IsCutAt-unfinished : (given : Result ℕ RunFault) (fault : RunFault) → IsTold design old new before after backlog given → IsUnfinished given backlog.collector fault → IsCutAt design old new before after fault
  IsCutAt-unfinished (Ok n) Memory told why = (HasBegun-given design old new before after backlog n told.whole, told.whole.no_failure)
  IsCutAt-unfinished (Ok n) (Write w) told why = IsCutAt-stopped design old new before after backlog n backlog.collector (Write w) exact told.whole why
  IsCutAt-unfinished (Ok n) (Incomplete a b c) told why = IsCutAt-stopped design old new before after backlog n backlog.collector (Incomplete a b c) exact told.whole why
  IsCutAt-unfinished (Err Memory) Memory told why = told.cut
  IsCutAt-unfinished (Err (Write w)) Memory told why = absurd (why w refl)
  IsCutAt-unfinished (Err (Incomplete a b c)) Memory told why = (told.cut.0, told.cut.1)
  IsCutAt-unfinished (Err f) (Write w) told why = subst (IsCutAt design old new before after) (sym why) told.cut
  IsCutAt-unfinished (Err f) (Incomplete a b c) told why = subst (IsCutAt design old new before after) (sym why) told.cut

  pub told-whole : (given : Result ℕ RunFault) (n : ℕ) → IsTold design old new before after backlog given → given ≡ Ok n → IsComplete backlog.collector → (n ≡ length (vcd design)) × Appends old new (vcd design) × (after ≡ before)
  told-whole given n told same complete =
      let P : Result ℕ RunFault → Type 0 = λ r. IfOk r (IsGiven design old new before after backlog) in
      let all : IsGiven design old new before after backlog n = subst P same told.whole in
      let text = given-whole design old new before after backlog n exact complete all in
      (text.0, text.1, all.no_failure)
