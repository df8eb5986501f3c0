-- What a stream handed on and what it keeps are the front of the text.
use Rattle.std.proofs.Common.{◌≡◌, ◌∙◌, ℕ, ◌+◌, ◌^◌, ◌<◌, ◌≤◌, List, [], ◌++◌, Err, Option, None, Some, length, take, ap, refl, sym, subst, append_assoc, length-append, arith}
use Rattle.std.specs.Io.KnownBytes.{Appends}
use Rattle.std.proofs.KnownBytes.{Appends-trans}
use Rattle.std.proofs.lemmas.List.{append-nil, length-take-le, take_at}
use Rattle.std.proofs.Math.Seq.{take-length}
use Rattle.cmb_design_model.specs.Design.{Design}
use Rattle.cmb_design_model.specs.Exact.{nets_of}
use Rattle.cmb_design_model.specs.Lawful.{IsDesign}
use Rattle.cmb_design_model.specs.Value.{value}
use Rattle.cmb_dump.specs.Shown.{CanShow, Shown, Subject, levels_shown, names_shown, vcd_shown, whole_text}
use Rattle.cmb_dump.proofs.ShownFacts.{names-few, names-short}
use Rattle.cmb_dump_stream.specs.Parts.{IsKept, made_text}
use Rattle.cmb_dump_stream.specs.Streams.{IsBrokenOff, IsWrittenTo}
use Rattle.cmb_io.specs.declared.write_fault.WriteFault.{WriteFault}
use Rattle.cmb_run_text.specs.Beginnings.{IsCutOff}
use Rattle.cmb_run_text.specs.Chosen.{vcd_of}
use Rattle.cmb_run_text.specs.Vcd.{text_of, vcd}
use Rattle.cmb_io.specs.declared.sink.Sink as sink
use Rattle.cmb_run_text.proofs.BeginFacts.{IsCutOff-front, part_text-begins, part_text-whole}
use Rattle.cmb_run_text.proofs.TextSizes.{part_text-fits}

-- ---- the text of all nets, or of chosen ones

made_text-fits : (subject : Subject) (upto : ℕ) → IsDesign subject.design → CanShow (nets_of subject.design) subject.shown → upto ≤ subject.design.horizon → length (made_text subject upto) < 2 ^ 64
made_text-fits subject upto lawful shows within =
    let netlist = subject.design.netlist in
    part_text-fits (names_shown netlist subject.shown) subject.design.horizon (levels_shown subject.shown (value subject.design)) upto
    (names-few netlist subject.shown lawful.netlist shows) (names-short netlist subject.shown lawful.netlist shows) lawful.horizon.1 within

-- the whole text
vcd_shown-is : (design : Design) (shown : Shown) → vcd_shown design shown ≡ text_of (names_shown design.netlist shown) design.horizon (levels_shown shown (value design))
unfolding vcd vcd_of
vcd_shown-is design None = refl
vcd_shown-is design (Some nets) = refl

whole-is : (subject : Subject) → whole_text subject ≡ text_of (names_shown subject.design.netlist subject.shown) subject.design.horizon (levels_shown subject.shown (value subject.design))
whole-is subject = vcd_shown-is subject.design subject.shown

whole-begins : (subject : Subject) (upto : ℕ) → upto ≤ subject.design.horizon → (rest : List ℕ) × (whole_text subject ≡ made_text subject upto ++ rest)
whole-begins subject upto within =
    let more = part_text-begins (names_shown subject.design.netlist subject.shown) subject.design.horizon (levels_shown subject.shown (value subject.design)) upto within in
    (more.0, whole-is subject ∙ more.1)

-- ---- what was handed on, and what is kept

module _ (subject : Subject) (clock given : ℕ) (text : List ℕ) (h : IsKept subject clock given text) where
  -- the length of what was made
  pub made-length : given + length text ≡ length (made_text subject clock)
  made-length = omega (arith, length-take-le given (whole_text subject) h.handed, length-append (take given (whole_text subject)) text, ap length h.made)

  pub made-fits : given + length text < 2 ^ 64
  made-fits = omega (arith, made-length, made_text-fits subject clock h.lawful h.shows h.within)

  -- the rest of the text
  pub made-rest : (rest : List ℕ) × (whole_text subject ≡ take given (whole_text subject) ++ (text ++ rest))
  made-rest =
      let more = whole-begins subject clock h.within in
      let all : whole_text subject ≡ made_text subject clock ++ more.0 = more.1 in
      (more.0, all ∙ ap (λ l. l ++ more.0) (sym h.made) ∙ append_assoc (take given (whole_text subject)) text more.0)

  -- all that was made, where what is kept is handed on
  made-front : take (given + length text) (whole_text subject) ≡ take given (whole_text subject) ++ text
  made-front =
      let more = made-rest in
      let front = take given (whole_text subject) ++ text in
      let long : length front ≡ given + length text = length-append (take given (whole_text subject)) text ∙ ap (λ n. n + length text) (length-take-le given (whole_text subject) h.handed) in
      let all : whole_text subject ≡ front ++ more.0 = more.1 ∙ sym (append_assoc (take given (whole_text subject)) text more.0) in
      ap (take (given + length text)) all ∙ take_at front more.0 (given + length text) long

  pub IsKept-given : (now : ℕ) (left : List ℕ) → now ≡ given + length text → left ≡ [] → IsKept subject clock now left
  IsKept-given now left n l = record {
    lawful = h.lawful;
    shows = h.shows;
    begun = h.begun;
    within = h.within;
    handed =
        let more = made-rest in
        omega (arith, n, ap length more.1, length-append (take given (whole_text subject)) (text ++ more.0), length-append text more.0, length-take-le given (whole_text subject) h.handed);
    made = ap (λ t. take now (whole_text subject) ++ t) l ∙ append-nil (take now (whole_text subject)) ∙ ap (λ k. take k (whole_text subject)) n ∙ made-front ∙ h.made;
  }

  -- a sink that took what was kept
  pub Appends-given : (start old new : Option (List ℕ)) (now : ℕ) → now ≡ given + length text → Appends start old (take given (whole_text subject)) → Appends old new text
      → Appends start new (take now (whole_text subject))
  Appends-given start old new now n a b =
      subst (Appends start new) (sym (ap (λ k. take k (whole_text subject)) n ∙ made-front)) (Appends-trans start old new (take given (whole_text subject)) text a b)

  -- a sink that failed in what was kept
  pub IsCutOff-given : (start old new : Option (List ℕ)) (before later n : ℕ) → n < length text
      → Appends start old (take given (whole_text subject)) → Appends old new (take n text) → later ≡ before + 1 → IsCutOff (whole_text subject) start new before later (given + n)
  IsCutOff-given start old new before later n short a b failed =
      let more = made-rest in
      IsCutOff-front (whole_text subject) (take given (whole_text subject)) text more.0 start old new before later given n more.1 (sym (length-take-le given (whole_text subject) h.handed)) short a b failed

pub made-whole : (subject own : Subject) (upto : ℕ) → own ≡ subject → upto ≡ own.design.horizon → made_text own upto ≡ whole_text subject
made-whole subject own upto same done =
    part_text-whole (names_shown own.design.netlist own.shown) own.design.horizon (levels_shown own.shown (value own.design)) upto done ∙ sym (whole-is own) ∙ ap whole_text same

-- a sink that took all that was made
pub Appends-whole : (subject own : Subject) (upto given : ℕ) (old new : Option (List ℕ)) → own ≡ subject → upto ≡ own.design.horizon → given ≡ length (made_text own upto)
    → Appends old new (take given (whole_text own)) → Appends old new (whole_text subject)
Appends-whole subject own upto given old new same done all taken =
    let long : given ≡ length (whole_text subject) = all ∙ ap length (made-whole subject own upto same done) in
    let text : take given (whole_text own) ≡ whole_text subject = ap (λ (s : Subject). take given (whole_text s)) same ∙ ap (λ k. take k (whole_text subject)) long ∙ take-length (whole_text subject) in
    subst (Appends old new) text taken

-- a text that isn't whole
pub IsWrittenTo-not : {S : Type 0} (s : sink.Ghosts S) (text : List ℕ) (old new : S) (f : WriteFault)
    → IsBrokenOff text (s.taken old) (s.taken new) (s.failures old) (s.failures new) f → IsWrittenTo s text old new (Err f)
IsWrittenTo-not s text old new f why = record { told = tt; taken = tt; no_failure = tt; fault = why }

-- a text of which the sink took what was handed on, and then failed in the next part
pub IsWrittenTo-part : {S : Type 0} (s : sink.Ghosts S) (subject own : Subject) (given : ℕ) (first old new : S) (f : WriteFault) → own ≡ subject
    → Appends (s.taken first) (s.taken old) (take given (whole_text subject)) → s.failures old ≡ s.failures first
    → ((start : Option (List ℕ)) → Appends start (s.taken old) (take given (whole_text own)) → IsBrokenOff (whole_text own) start (s.taken new) (s.failures old) (s.failures new) f)
    → IsWrittenTo s (whole_text subject) first new (Err f)
IsWrittenTo-part s subject own given first old new f same taken none why =
    let Begins : Subject → Type 0 = λ d. Appends (s.taken first) (s.taken old) (take given (whole_text d)) in
    let Breaks : Subject → ℕ → Type 0 = λ d before. IsBrokenOff (whole_text d) (s.taken first) (s.taken new) before (s.failures new) f in
    IsWrittenTo-not s (whole_text subject) first new f (subst (Breaks subject) none (subst (λ d. Breaks d (s.failures old)) same (why (s.taken first) (subst Begins (sym same) taken))))
