-- What a text writer gave is a beginning of the design's text.
use Rattle.std.proofs.Common.{◌≡◌, ◌∙◌, ℕ, ◌+◌, ◌^◌, ◌<◌, ◌≤◌, List, ◌++◌, Option, None, Some, length, take, refl, ap, sym, subst, append_assoc, length-append, arith}
use Rattle.std.specs.Prelude.{unwrap_or, Result, Ok, Err, IfOk, IfErr, OnOk}
use Rattle.std.specs.Io.KnownBytes.{Appends}
use Rattle.cmb_design_model.specs.Design.{Design}
use Rattle.cmb_design_model.specs.Lawful.{IsDesign}
use Rattle.cmb_design_model.specs.Value.{value}
use Rattle.cmb_run_text.specs.Beginnings.{HasBegun, IsCutOff}
use Rattle.cmb_run_text.specs.Collector.{Collector, IsExactFrom, forgot, least}
use Rattle.cmb_run_text.specs.Vcd.{vcd}
use Rattle.cmb_run_text.specs.Writer.{IsNotBefore, Writer, done_text}
use Rattle.cmb_run_text.proofs.BeginFacts.{HasBegun-front, IsCutOff-front, vcd-begins, vcd-whole}
use Rattle.cmb_run_text.proofs.CollectorFacts.{least_clock_bound}
use Rattle.cmb_run_text.proofs.ForgetFacts.{forgot_least}
use Rattle.cmb_run_text.proofs.TextSizes.{part_text-fits}
use Rattle.cmb_run_exact.specs.declared.run_fault.RunFault.{RunFault}
use Rattle.cmb_run_free.specs.FreeRuns.{IsCutAt}
use Rattle.cmb_run_free.specs.Inner.TextWriters.{Backlog, IsTextWriter, IsTold, IsToldTo, IsWithin, told}

pub least-within : (design : Design) (from : ℕ) (collector : Collector) → IsExactFrom design from collector → least collector ≤ design.horizon
least-within design from collector exact = omega (arith, least_clock_bound collector.horizon collector.waves, exact.opened.horizon)

-- where a text is given from, and up to where
pub later-from : (done : Option ℕ) (upto : ℕ) → IsNotBefore done upto → unwrap_or done 0 ≤ upto
later-from None upto later = omega arith
later-from (Some done) upto later = later

told-fits : (design : Design) (done : Option ℕ) → IsDesign design → IsWithin design done → length (told design done) < 2 ^ 64
told-fits design None lawful within = omega arith
told-fits design (Some done) lawful within = part_text-fits design.netlist.names design.horizon (value design) done lawful.netlist.few lawful.netlist.short_names lawful.horizon.1 within

-- what was told, and the rest of the design's text
told-begins : (design : Design) (done : Option ℕ) → IsWithin design done → (rest : List ℕ) × (vcd design ≡ told design done ++ rest)
told-begins design None within = (vcd design, refl)
told-begins design (Some done) within = vcd-begins design done within

pub told-whole : (design : Design) (done : ℕ) → done ≡ design.horizon → told design (Some done) ≡ vcd design
told-whole design done e = vcd-whole design done e

pub HasBegun-told : (design : Design) (done : Option ℕ) (old new : Option (List ℕ)) → IsWithin design done → Appends old new (told design done) → HasBegun (vcd design) old new
HasBegun-told design done old new within h =
    let whole = told-begins design done within in
    HasBegun-front (vcd design) (told design done) whole.0 old new whole.1 h

-- ---- a text writer that gave the next part

module _ (design : Design) (backlog : Backlog) (writer : Writer) (given : ℕ) (collector : Collector) (part : List ℕ)
    (text_writer : IsTextWriter design backlog writer given) (exact : IsExactFrom design (unwrap_or backlog.written 0) collector)
    (more : IsExactFrom writer.design (unwrap_or writer.done 0) collector
    → done_text writer.design (value writer.design) (Some (least collector)) ≡ done_text writer.design (value writer.design) writer.done ++ part) where
  within : least collector ≤ design.horizon
  within = least-within design (unwrap_or backlog.written 0) collector exact

  -- what its writer adds to what it gave
  pub told-more : told design (Some (least collector)) ≡ told design backlog.written ++ part
  told-more =
      let P : Design × Option ℕ → Type 0 = λ (w : Design × Option ℕ). IsExactFrom w.0 (unwrap_or w.1 0) collector → done_text w.0 (value w.0) (Some (least collector)) ≡ done_text w.0 (value w.0) w.1 ++ part in
      subst P (λ i. (text_writer.opened i, text_writer.same i)) more exact

  told-length : length (told design (Some (least collector))) ≡ given + length part
  told-length = let count = text_writer.count in let both : length (told design (Some (least collector))) ≡ length (told design backlog.written) + length part = ap length told-more ∙ length-append (told design backlog.written) part in omega arith

  -- how long it all is then
  pub told-more-fits : given + length part < 2 ^ 64
  told-more-fits = let fits = told-fits design (Some (least collector)) text_writer.lawful within in let long = told-length in omega arith

  pub text_writer-more : (after : Backlog) (new : Writer) (len : ℕ) → after.written ≡ Some (least collector) → new ≡ record writer { done = Some (least collector) } → len ≡ length part → IsTextWriter design after new (given + len)
  text_writer-more after new len wrote next l =
      let long = told-length in
      subst (λ (w : Writer). IsTextWriter design after w (given + len)) (sym next) (record {
        lawful = text_writer.lawful;
        opened = text_writer.opened;
        same = sym wrote;
        within = subst (IsWithin design) (sym wrote) within;
        count = ap (λ n. given + n) l ∙ sym long ∙ ap (λ k. length (told design k)) (sym wrote);
      })

  -- a sink that took the part's front and failed
  pub IsCutOff-told : (start old new : Option (List ℕ)) (before later n : ℕ) → n < length part → Appends start old (told design backlog.written) → Appends old new (take n part) → later ≡ before + 1
      → IsCutOff (vcd design) start new before later (given + n)
  IsCutOff-told start old new before later n short a b failed =
      let whole = told-begins design (Some (least collector)) within in
      let text = told design backlog.written in
      let all : vcd design ≡ text ++ (part ++ whole.0) = whole.1 ∙ ap (λ l. l ++ whole.0) told-more ∙ append_assoc text part whole.0 in
      IsCutOff-front (vcd design) text part whole.0 start old new before later given n all text_writer.count short a b failed

-- all that is known was given, and is forgotten
pub told-to : (design : Design) (backlog after : Backlog) (upto : ℕ) → IsExactFrom design (unwrap_or backlog.written 0) backlog.collector → upto ≡ least backlog.collector
    → after ≡ record { collector = forgot backlog.collector upto; written = Some upto } → IsToldTo design after.written (least after.collector)
told-to design backlog after upto exact is next =
    let known = backlog.collector in
    let still : least (forgot known upto) ≡ least known = forgot_least known.horizon known.waves upto in
    let within = least-within design (unwrap_or backlog.written 0) known exact in
    subst (λ (b : Backlog). IsToldTo design b.written (least b.collector)) (sym next) (omega (arith, still), omega arith)

-- a text writer that gave all, behind what it gave before
pub told-last : (design : Design) (start old new : Option (List ℕ)) (first before after : ℕ) (from : Option ℕ) (backlog : Backlog) (given : Result ℕ RunFault) → Appends start old (told design from) → before ≡ first
    → ((s : Option (List ℕ)) → Appends s old (told design from) → OnOk given (Appends s new (told design backlog.written))) → IfOk given (λ n. n ≡ length (told design backlog.written)) → OnOk given (IsToldTo design backlog.written (least backlog.collector))
    → OnOk given (after ≡ before) → ((s : Option (List ℕ)) → Appends s old (told design from) → IfErr given (IsCutAt design s new before after)) → IsTold design start new first after backlog given
told-last design start old new first before after from backlog (Err fault) begun same ok count upto none cut =
    let P : ℕ → Type 0 = λ k. IsCutAt design start new k after fault in
    record { whole = tt; cut = subst P same (cut start begun) }
told-last design start old new first before after from backlog (Ok n) begun same ok count upto none cut = given-all backlog.written refl upto
  where
    given-all : (now : Option ℕ) → now ≡ backlog.written → IsToldTo design now (least backlog.collector) → IsTold design start new first after backlog (Ok n)
    given-all None is to = absurd to
    given-all (Some tick) is to = record {
      whole = record { done = tick; written = sym is; reached = to.0; within = to.1; count = count ∙ ap (λ k. length (told design k)) (sym is); text = subst (λ (k : Option ℕ). Appends start new (told design k)) (sym is) (ok start begun); no_failure = none ∙ same };
      cut = tt;
    }
